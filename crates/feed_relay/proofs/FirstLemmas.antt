-- Lemmas on places that are asked one after another.
use Rattle.std.proofs.Common.{◌≡◌, sym, ap, ◌∙◌, subst, ◌+◌, ◌++◌, ◌∷◌, [], List, ℕ, true, false, length, take, drop, append_assoc}
use Rattle.std.proofs.lemmas.List.{take-append-drop}
use Rattle.feed_relay.specs.declared.server.Server.{Server}
use Rattle.feed_relay.specs.Dialing.{Dialer}
use Rattle.feed_relay.specs.First.{DialingMirror, is_last, AsksServer, AsksEach, AsksUpTo, one_asked}
use Rattle.feed_relay.specs.declared.first.Attempt.{Attempt}
use Rattle.feed_relay.specs.declared.first.AttemptEnd.{AttemptEnd}

module _ {D R W : Type 0} where
  -- behind a place that ends nothing, the next one is asked
  pub goes_on : (dialer : Dialer D R W) (most_reads number : ℕ) (start middle end : DialingMirror D)
      (servers : List Server) (server : Server) (earlier attempts all : List Attempt)
      (outcome : AttemptEnd) → AsksEach dialer most_reads start (take number servers) earlier middle
      → length (take number servers) ≡ number
      → take (number + 1) servers ≡ take number servers ++ server ∷ []
      → AsksServer dialer number server most_reads middle attempts outcome end
      → is_last outcome ≡ false → all ≡ earlier ++ attempts
      → AsksEach dialer most_reads start (take (number + 1) servers) all end
  goes_on dialer most_reads number start middle end servers server earlier attempts all outcome went count next asked on is =
      subst (λ l. AsksEach dialer most_reads start l all end) (sym next)
      (subst (λ l. AsksEach dialer most_reads start (take number servers ++ server ∷ []) l end) (sym is)
      (one_asked (take number servers) server earlier attempts outcome middle end went
      (subst (λ n. AsksServer dialer n server most_reads middle attempts outcome end) (sym count) asked) on))

  -- behind the last place no other one is asked
  pub stops_at : (dialer : Dialer D R W) (most_reads number : ℕ) (start middle end : DialingMirror D)
      (servers : List Server) (server : Server) (earlier attempts all : List Attempt)
      (outcome : AttemptEnd) → AsksEach dialer most_reads start (take number servers) earlier middle
      → length (take number servers) ≡ number
      → take (number + 1) servers ≡ take number servers ++ server ∷ []
      → AsksServer dialer number server most_reads middle attempts outcome end
      → is_last outcome ≡ true → all ≡ earlier ++ attempts
      → AsksUpTo dialer most_reads start servers all end
  stops_at dialer most_reads number start middle end servers server earlier attempts all outcome went count next asked last is =
      record {
        before = take number servers;
        server = server;
        behind = drop (number + 1) servers;
        split = sym (take-append-drop (number + 1) servers) ∙ ap (λ l. l ++ drop (number + 1) servers) next
            ∙ append_assoc (take number servers) (server ∷ []) (drop (number + 1) servers);
        earlier = earlier;
        last = attempts;
        outcome = outcome;
        middle = middle;
        went = went;
        asked = subst (λ n. AsksServer dialer n server most_reads middle attempts outcome end) (sym count) asked;
        stops = last;
        all = is;
      }
