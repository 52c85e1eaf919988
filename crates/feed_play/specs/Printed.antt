-- What is printed of a world: its replies, and what its nodes show.
use Rattle.std.specs.Prelude.{◌≡◌, ℕ, List, [], ◌∷◌, ◌++◌, codes, decimal, Option, None, Some, unwrap_or}
use Rattle.feed_text.specs.Ascii.{line_feed}
use Rattle.feed_node.specs.Publishing.{Published}
use Rattle.feed_node.specs.Texts.{snapshot_text}
use Rattle.feed_node.specs.declared.fault.FeedFault.TheVariants.{Memory}
use Rattle.feed_follow.specs.declared.fault.FollowFault.TheVariants.{Feed, Memory as FollowMemory}
use Rattle.feed_node.specs.declared.session.Pulled.TheVariants.{More, UpToDate, Gone}
use Rattle.feed_world.specs.declared.event.Reply.{Reply}
use Rattle.feed_world.specs.declared.event.Reply.TheVariants as reply

abbrev pub as_line : List ℕ → List ℕ
as_line text = text ++ line_feed ∷ []

-- The line that tells a reply. The token is the one that the mirror has published then, where the
-- event restarted one. Of a connection that broke for another reason than want of memory, nothing
-- is said.
abbrev pub PrintsReply : Option (List ℕ) → Reply → List ℕ → Type 0
PrintsReply token (reply.Committed name) line = line ≡ as_line (codes "committed " ++ name)
PrintsReply token reply.Opened line = line ≡ as_line (codes "opened")
PrintsReply token reply.Refused line = line ≡ as_line (codes "refused")
PrintsReply token reply.NotYet line = line ≡ as_line (codes "not yet")
PrintsReply token (reply.Sent More) line = line ≡ as_line (codes "sent more")
PrintsReply token (reply.Sent UpToDate) line = line ≡ as_line (codes "sent up to date")
PrintsReply token (reply.Sent Gone) line = line ≡ as_line (codes "sent gone")
PrintsReply token reply.Idled line = line ≡ as_line (codes "idled")
PrintsReply token (reply.Delivered count) line =
    line ≡ as_line (codes "delivered " ++ decimal count)
PrintsReply token (reply.Broke i FollowMemory) line = line ≡ as_line (codes "broke out of memory")
PrintsReply token (reply.Broke i (Feed Memory)) line = line ≡ as_line (codes "broke out of memory")
PrintsReply token (reply.Broke i why) line = Unit {0}
PrintsReply token reply.Cut line = line ≡ as_line (codes "cut")
PrintsReply token (reply.Saved count) line = line ≡ as_line (codes "saved " ++ decimal count)
PrintsReply token (reply.Restarted published) line =
    line ≡ as_line (codes "restarted " ++ unwrap_or token (codes "nothing"))

-- what is printed of what a node has published: its snapshot, the token on the last line
abbrev pub shown_text : Option Published → List ℕ
shown_text None = as_line (codes "nothing")
shown_text (Some pair) = snapshot_text (pair.tables) (pair.token)

-- these bytes were appended
abbrev pub Prints : List ℕ → List ℕ → (List ℕ → Type 0) → Type 0
Prints old new Is = (text : List ℕ) × Is text × (new ≡ old ++ text)
