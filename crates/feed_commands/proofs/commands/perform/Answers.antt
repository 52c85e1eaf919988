use Rattle.feed_commands.proofs.CommandLemmas.{device_by}
use Rattle.feed_commands.proofs.commands.perform.Goals as goal

pub returns-in-None-clause-device : goal.returns-in-None-clause-device
returns-in-None-clause-device g c = device_by _ _ c.print_tables.ensures.read c.print_tables.ensures.write c.print_tables.ensures.memory

pub returns-in-Some-clause-device : goal.returns-in-Some-clause-device
returns-in-Some-clause-device g c = device_by _ _ c.print_state_at.ensures.read c.print_state_at.ensures.write c.print_state_at.ensures.memory

pub returns-in-Check-clause-device : goal.returns-in-Check-clause-device
returns-in-Check-clause-device g c = device_by _ _ c.print_check.ensures.read c.print_check.ensures.write c.print_check.ensures.memory

pub returns-in-Play-clause-device : goal.returns-in-Play-clause-device
returns-in-Play-clause-device g c = device_by _ _ c.print_played.ensures.read c.print_played.ensures.write c.print_played.ensures.memory
