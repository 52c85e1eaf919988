-- What was written to the sockets of screens.
use Rattle.std.proofs.Common.{subst}
use Rattle.feed_screens.specs.Serving.{WereFaithful, key_at, SocketStands}
use Rattle.feed_screens.proofs.ServingLemmas.{stands_all}
use Rattle.feed_live.specs.ScreenLaws.{SocketsAreFaithful}

pub sockets_are_faithful : SocketsAreFaithful
sockets_are_faithful nodes contest hub conns sockets at socket serving is =
    stands_all nodes contest hub (key_at conns at) socket (subst (SocketStands nodes contest hub (key_at conns at)) is (serving.each at)) (subst (WereFaithful nodes contest) is (serving.former at))
