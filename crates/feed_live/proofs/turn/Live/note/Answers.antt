use Rattle.std.proofs.Common.{◌≡◌, ◌⊎◌, ◌∙◌, sym, ap, subst}
use Rattle.std.specs.Prelude.{true}
use Rattle.feed_live.proofs.TurnLemmas.{beside_then, serves_then}
use Rattle.feed_live.proofs.turn.Live.note.Goals as goal

pub loop-event-preserved : goal.loop-event-preserved
loop-event-preserved c =
    record {
      serves = λ sockets. serves_then (c.note_one.ensures.serves sockets) (c.loop-event.invariant.serves sockets);
      saved = beside_then c.note_one.ensures.saved c.loop-event.invariant.saved;
      desk = c.note_one.ensures.desk ∙ c.loop-event.invariant.desk;
      source = c.note_one.ensures.source ∙ c.loop-event.invariant.source;
      waits = c.note_one.ensures.waits ∙ c.loop-event.invariant.waits;
    }

pub returns : goal.returns
returns c =
    record {
      serves = λ sockets. serves_then (c.note_link.ensures.serves sockets) (c.loop-event.invariant.serves sockets);
      desk = c.note_link.ensures.beside.0 ∙ c.loop-event.invariant.desk;
      saved = beside_then c.note_link.ensures.beside.1 c.loop-event.invariant.saved;
      wakes = λ event reach. c.note_link.ensures.wakes event (λ away. reach (sym (ap (λ s. s.reach) c.loop-event.invariant.source) ∙ away));
      rests = λ away more. c.note_link.ensures.rests (ap (λ s. s.reach) c.loop-event.invariant.source ∙ away) (ap (λ s. s.has_more) c.loop-event.invariant.source ∙ more);
      stays = λ none. ap (λ l. l.source) (c.note_link.ensures.stays none) ∙ c.loop-event.invariant.source;
      more = λ reach.
          subst (λ m. (c.note_link.new.self.source.has_more ≡ m) ⊎ (c.note_link.new.self.source.has_more ≡ true)) (ap (λ s. s.has_more) c.loop-event.invariant.source)
          (c.note_link.ensures.more (λ away. reach (sym (ap (λ s. s.reach) c.loop-event.invariant.source) ∙ away)));
      waits = ap (λ s. s.saying) c.note_link.ensures.beside.2 ∙ c.loop-event.invariant.waits;
    }
