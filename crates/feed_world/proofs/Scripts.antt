-- Runs of a world, computed.
use Rattle.std.proofs.Common.{◌≡◌, sym, ap, ◌∙◌, ℕ, List, [], ◌∷◌, ◌++◌, length, Option, Some, None, Result, Ok, Err, refl, codes, Bool, true, false, cond, not, arith}
use Rattle.std.specs.Fmt.{digits}
use Rattle.std.specs.Cmp.{eq_by_cmp_equiv, alike_right}
use Rattle.std.specs.Ordering.{eq_by_cmp, is_eq}
use Rattle.std.specs.FinMap.{FinMap, empty, entries, entries_sorted, find, from_sorted, entries-from_sorted, get-from_sorted, get-entries, get-remove, same_map, len-entries, len-empty, insert, remove, put, entries-insert, slice_cmp-IsAntisymmetric, nat_cmp-IsAntisymmetric}
use Rattle.std.specs.FinMap.Entries.{is_sorted-where_key, find-where_key}
use Rattle.feed_settings.specs.Limits.{by_count}
use Rattle.feed_settings.specs.declared.framing.Framing.TheVariants.{Close}
use Rattle.feed_text.specs.Strings.{written_string}
use Rattle.feed_tables.specs.Bytes.{byte_order, without}
use Rattle.feed_tables.specs.Tables.{after}
use Rattle.feed_tables.proofs.Maps.{turned}
use Rattle.feed_changes.specs.declared.change.Change.{Change}
use Rattle.feed_changes.specs.declared.change.Change.TheVariants.{Set, Remove, Single, Clear}
use Rattle.feed_changes.proofs.Order.{total}
use Rattle.feed_node.specs.Texts.{published_text}
use Rattle.feed_node.specs.Bounds.{is_full, is_large}
use Rattle.feed_node.specs.declared.primary.CommitFault.TheVariants.{EmptyBatch}
use Rattle.feed_node.specs.declared.session.Pulled.TheVariants.{More, UpToDate, Gone}
use Rattle.feed_world.specs.declared.event.Event.{Event}
use Rattle.feed_world.specs.declared.event.Event.TheVariants.{Commit as DoCommit, Connect, Serve, Idle, Deliver, Cut as DoCut, Save, Restart}
use Rattle.feed_world.specs.declared.event.Reply.{Reply}
use Rattle.feed_world.specs.declared.event.Reply.TheVariants.{Committed, Opened, Refused, NotYet, Sent, Idled, Delivered, Cut, Saved, Restarted}
use Rattle.feed_world.specs.declared.event.WorldFault.{WorldFault}
use Rattle.feed_world.specs.declared.event.WorldFault.TheVariants.{NoNode, NoConnection, Commit as CommitRefused}
use Rattle.feed_world.specs.Connection.{Connection, Snapshot}
use Rattle.feed_world.specs.Position.{Position}
use Rattle.feed_world.specs.World.{World, Mirror, new_world, node_of}
use Rattle.feed_world.specs.Step.{Outcome, outcome}

no_length : {A : Type 0} (es : List A) → length es ≡ 0 → es ≡ []
no_length [] e = refl
no_length (x ∷ es) e = absurd (omega arith)

entries-empty : (X : Type 0) → entries (empty {X = X} {R = byte_order}) ≡ []
entries-empty X = no_length _ (sym (len-entries (empty {X = X} {R = byte_order})) ∙ len-empty byte_order X)

entries-inserted : {X : Type 0} (m : FinMap byte_order X) (k : List ℕ) (v : X) → entries (insert m k v) ≡ put byte_order k v (entries m)
entries-inserted m k v = entries-insert total m k v

module _ {X : Type 0} (m : FinMap byte_order X) (k : List ℕ) where
  found_without : (q : List ℕ) → find byte_order q (without k (entries m)) ≡ cond (eq_by_cmp byte_order q k) None (find byte_order q (entries m))
  found_without q =
      find-where_key byte_order (λ x. not (eq_by_cmp byte_order k x)) q (λ x t. ap (λ r. not (is_eq r)) (sym (alike_right total q x k t))) (entries m)
      ∙ turned (eq_by_cmp byte_order k q) _ _
      ∙ ap (λ b. cond b None (find byte_order q (entries m))) ((eq_by_cmp_equiv total).symm k q)

  entries-removed : entries (remove m k) ≡ without k (entries m)
  entries-removed =
      let sorted = is_sorted-where_key byte_order (λ x. not (eq_by_cmp byte_order k x)) (entries m) (entries_sorted m) in
      let same : remove m k ≡ from_sorted (without k (entries m)) = same_map total (slice_cmp-IsAntisymmetric nat_cmp-IsAntisymmetric) _ _ (λ q.
      get-remove total m k q ∙ ap (cond (eq_by_cmp byte_order q k) None) (get-entries m q) ∙ sym (get-from_sorted byte_order (without k (entries m)) q sorted ∙ found_without q)) in
      ap entries same ∙ entries-from_sorted byte_order (without k (entries m)) sorted

abbrev Replies : Type 0
Replies = List (Result Reply WorldFault)

abbrev go_on : World → Outcome → (World → Replies × World) → Replies × World
go_on w (Err fault) next = (Err fault ∷ [], w)
go_on w (Ok p) next = let later = next p.1 in (Ok p.0 ∷ later.0, later.1)

-- the replies up to the first refused event, and the world after them
abbrev run_all : World → List Event → Replies × World
run_all w [] = ([], w)
run_all w (e ∷ es) = go_on w (outcome w e) (λ v. run_all v es)

-- the snapshot of what a node shows
abbrev shown : World → ℕ → List ℕ
shown w i = published_text (node_of w i).published

abbrev world : ℕ → ℕ → ℕ → World
world h s nodes = new_world (record { history = by_count h; staged = s; memory = None }) Close nodes

abbrev teams : List ℕ
teams = codes "teams"

abbrev state : List ℕ
state = codes "state"

abbrev groups : List ℕ
groups = codes "groups"

abbrev obj : List ℕ → List ℕ
obj i = codes "{\"id\":\"" ++ i ++ codes "\"}"

abbrev set_team : List ℕ → Change
set_team i = Set teams i (obj i)

-- a connection on which only a snapshot was sent
abbrev opened_at : ℕ → ℕ → Bool → Connection
opened_at k delivered over = record { framing = Close; fresh = true; start = k; parts = Snapshot k ∷ []; delivered = delivered; last = k; over = over }

abbrev position : ℕ → ℕ → Option Position
position at low = Some (record { at = at; low = low })

abbrev mirror : Option Position → ℕ → Bool → Option Connection → Mirror
mirror p upstream afresh connection = record { place = p; upstream = upstream; afresh = afresh; connection = connection; saved = None }

-- a mirror whose token is no longer held, with a cut within the second snapshot
abbrev a_log : List (List Change)
a_log = (set_team (codes "1") ∷ []) ∷ (Single state (codes "{}") ∷ []) ∷ (Clear teams ∷ [])
    ∷ (Set groups (codes "1") (obj (codes "1")) ∷ []) ∷ (Set groups (codes "2") (obj (codes "2")) ∷ []) ∷ []

abbrev a_world : List Mirror → World
a_world mirrors = record { limits = record { history = by_count 2; staged = 100; memory = None }; framing = Close; log = a_log; primary = record { at = 5; low = 3 }; mirrors = mirrors }

abbrev a_behind : World
a_behind = a_world (mirror (position 1 1) 0 false (Some (opened_at 1 167 false)) ∷ [])

abbrev a_cut : World
a_cut = a_world (mirror (position 1 1) 0 true None ∷ [])

abbrev a_reset : World
a_reset = a_world (mirror (position 5 5) 0 false (Some (opened_at 5 251 false)) ∷ [])

a_first : run_all (world 2 100 2) (DoCommit (set_team (codes "1") ∷ []) ∷ Connect 1 0 0 ∷ Deliver 1 9999
    ∷ DoCommit (Single state (codes "{}") ∷ []) ∷ DoCommit (Clear teams ∷ [])
    ∷ DoCommit (Set groups (codes "1") (obj (codes "1")) ∷ []) ∷ DoCommit (Set groups (codes "2") (obj (codes "2")) ∷ []) ∷ [])
    ≡ (Ok (Committed (codes "1")) ∷ Ok Opened ∷ Ok (Delivered 1) ∷ Ok (Committed (codes "2")) ∷ Ok (Committed (codes "3")) ∷ Ok (Committed (codes "4")) ∷ Ok (Committed (codes "5")) ∷ [], a_behind)
unfolding digits after is_full is_large written_string
a_first = simp (entries-inserted, entries-removed, get-entries, len-entries, entries-empty)

a_refused : run_all a_behind (Connect 1 0 0 ∷ Connect 1 0 0 ∷ Deliver 1 10 ∷ DoCut 1 ∷ []) ≡ (Ok Refused ∷ Ok Opened ∷ Ok (Delivered 0) ∷ Ok Cut ∷ [], a_cut)
unfolding digits after written_string
a_refused = simp (entries-inserted, entries-removed, get-entries, len-entries, entries-empty)

a_shown : shown a_cut 1 ≡ codes "{\"type\":\"teams\",\"id\":null,\"data\":[]}\n{\"type\":\"teams\",\"id\":\"1\",\"data\":{\"id\":\"1\"},\"token\":\"1\"}\n"
unfolding digits after written_string
a_shown = simp (entries-inserted, entries-removed, get-entries, len-entries, entries-empty)

a_last : run_all a_cut (Connect 1 0 0 ∷ Deliver 1 9999 ∷ []) ≡ (Ok Opened ∷ Ok (Delivered 1) ∷ [], a_reset)
unfolding digits after written_string
a_last = simp (entries-inserted, entries-removed, get-entries, len-entries, entries-empty)

a_shown_last : shown a_reset 1 ≡ codes "{\"type\":\"groups\",\"id\":null,\"data\":[]}\n{\"type\":\"groups\",\"id\":\"1\",\"data\":{\"id\":\"1\"}}\n{\"type\":\"groups\",\"id\":\"2\",\"data\":{\"id\":\"2\"}}\n{\"type\":\"state\",\"id\":null,\"data\":{},\"token\":\"5\"}\n"
unfolding digits after written_string
a_shown_last = simp (entries-inserted, entries-removed, get-entries, len-entries, entries-empty)

-- a relay that is reset while the session of a mirror behind it is open
abbrev b_log : List (List Change)
b_log = (set_team (codes "1") ∷ []) ∷ (set_team (codes "2") ∷ []) ∷ (Remove teams (codes "1") ∷ []) ∷ (Single state (codes "{}") ∷ []) ∷ []

abbrev b_world : List Mirror → World
b_world mirrors = record { limits = record { history = by_count 1; staged = 100; memory = None }; framing = Close; log = b_log; primary = record { at = 4; low = 3 }; mirrors = mirrors }

abbrev b_behind : World
b_behind = b_world (mirror (position 1 1) 0 false (Some (opened_at 1 167 false)) ∷ mirror None 1 false (Some (opened_at 1 0 false)) ∷ [])

abbrev b_relay_reset : World
b_relay_reset = b_world (mirror (position 4 4) 0 false (Some (opened_at 4 204 false)) ∷ mirror (position 1 1) 1 false (Some (opened_at 1 167 true)) ∷ [])

abbrev b_all_reset : World
b_all_reset = b_world (mirror (position 4 4) 0 false (Some (opened_at 4 204 false)) ∷ mirror (position 4 4) 1 false (Some (opened_at 4 204 false)) ∷ [])

b_first : run_all (world 1 100 3) (DoCommit (set_team (codes "1") ∷ []) ∷ Connect 1 0 0 ∷ Deliver 1 9999 ∷ Connect 2 1 0
    ∷ DoCommit (set_team (codes "2") ∷ []) ∷ DoCommit (Remove teams (codes "1") ∷ []) ∷ DoCommit (Single state (codes "{}") ∷ []) ∷ [])
    ≡ (Ok (Committed (codes "1")) ∷ Ok Opened ∷ Ok (Delivered 1) ∷ Ok Opened ∷ Ok (Committed (codes "2")) ∷ Ok (Committed (codes "3")) ∷ Ok (Committed (codes "4")) ∷ [], b_behind)
unfolding digits after is_full is_large written_string
b_first = simp (entries-inserted, entries-removed, get-entries, len-entries, entries-empty)

b_refused : run_all b_behind (Connect 1 0 0 ∷ Connect 1 0 0 ∷ Deliver 1 9999 ∷ Serve 2 ∷ Idle 2 ∷ Deliver 2 9999 ∷ [])
    ≡ (Ok Refused ∷ Ok Opened ∷ Ok (Delivered 1) ∷ Ok (Sent Gone) ∷ Ok (Sent Gone) ∷ Ok (Delivered 1) ∷ [], b_relay_reset)
unfolding digits after written_string
b_refused = simp (entries-inserted, entries-removed, get-entries, len-entries, entries-empty)

b_shown : shown b_relay_reset 2 ≡ codes "{\"type\":\"teams\",\"id\":null,\"data\":[]}\n{\"type\":\"teams\",\"id\":\"1\",\"data\":{\"id\":\"1\"},\"token\":\"1\"}\n"
unfolding digits after written_string
b_shown = simp (entries-inserted, entries-removed, get-entries, len-entries, entries-empty)

b_last : run_all b_relay_reset (Connect 2 1 0 ∷ Connect 2 1 0 ∷ Deliver 2 9999 ∷ []) ≡ (Ok Refused ∷ Ok Opened ∷ Ok (Delivered 1) ∷ [], b_all_reset)
unfolding digits after written_string
b_last = simp (entries-inserted, entries-removed, get-entries, len-entries, entries-empty)

b_shown_last : shown b_all_reset 2 ≡ codes "{\"type\":\"state\",\"id\":null,\"data\":{}}\n{\"type\":\"teams\",\"id\":null,\"data\":[]}\n{\"type\":\"teams\",\"id\":\"2\",\"data\":{\"id\":\"2\"},\"token\":\"4\"}\n"
unfolding digits after written_string
b_shown_last = simp (entries-inserted, entries-removed, get-entries, len-entries, entries-empty)

-- a commit that is sent on an open connection
abbrev sent_on : List Event
sent_on = Connect 1 0 0 ∷ Deliver 1 9999 ∷ DoCommit (Single state (codes "{}") ∷ []) ∷ Serve 1 ∷ Serve 1 ∷ Idle 1 ∷ Deliver 1 9999 ∷ []

d_replies : (run_all (world 1 100 2) sent_on).0 ≡
    Ok Opened ∷ Ok (Delivered 1) ∷ Ok (Committed (codes "1")) ∷ Ok (Sent More) ∷ Ok (Sent UpToDate) ∷ Ok Idled ∷ Ok (Delivered 1) ∷ []
unfolding digits after is_full is_large written_string
d_replies = simp (entries-inserted, entries-removed, get-entries, len-entries, entries-empty)

d_shown : shown (run_all (world 1 100 2) sent_on).1 1 ≡ codes "{\"type\":\"state\",\"id\":null,\"data\":{},\"token\":\"1\"}\n"
unfolding digits after is_full is_large written_string
d_shown = simp (entries-inserted, entries-removed, get-entries, len-entries, entries-empty)

-- a mirror that was cut between two commits, and is sent again what it holds
abbrev e_log : List (List Change)
e_log = (Set (codes "t") (codes "1") (codes "{}") ∷ []) ∷ (Remove (codes "t") (codes "1") ∷ []) ∷ []

abbrev e_cut : World
e_cut = record { limits = record { history = by_count 4; staged = 100; memory = None }; framing = Close; log = e_log; primary = record { at = 2; low = 0 }; mirrors = mirror (position 2 0) 0 false None ∷ [] }

-- its next connection begins at 0
abbrev sent_again : List Event
sent_again = Connect 1 0 9 ∷ DoCommit (Single (codes "s") (codes "{}") ∷ []) ∷ Serve 1 ∷ Deliver 1 9999 ∷ []

e_prefix : run_all (world 4 100 2) (Connect 1 0 0 ∷ Deliver 1 9999 ∷ DoCommit (Set (codes "t") (codes "1") (codes "{}") ∷ []) ∷ DoCommit (Remove (codes "t") (codes "1") ∷ [])
    ∷ Serve 1 ∷ Serve 1 ∷ Deliver 1 9999 ∷ DoCut 1 ∷ [])
    ≡ (Ok Opened ∷ Ok (Delivered 1) ∷ Ok (Committed (codes "1")) ∷ Ok (Committed (codes "2")) ∷ Ok (Sent More) ∷ Ok (Sent More) ∷ Ok (Delivered 2) ∷ Ok Cut ∷ [], e_cut)
unfolding digits after is_full is_large written_string
e_prefix = simp (entries-inserted, entries-removed, get-entries, len-entries, entries-empty)

e_again : (run_all e_cut sent_again).0 ≡ Ok Opened ∷ Ok (Committed (codes "3")) ∷ Ok (Sent More) ∷ Ok (Delivered 0) ∷ []
unfolding digits after is_full is_large written_string
e_again = simp (entries-inserted, entries-removed, get-entries, len-entries, entries-empty)

e_shown : shown (run_all e_cut sent_again).1 1 ≡ codes "{\"type\":\"t\",\"id\":null,\"data\":[],\"token\":\"2\"}\n"
unfolding digits after is_full is_large written_string
e_shown = simp (entries-inserted, entries-removed, get-entries, len-entries, entries-empty)

e_last : (run_all (run_all e_cut sent_again).1 (Serve 1 ∷ Serve 1 ∷ Deliver 1 9999 ∷ [])).0 ≡ Ok (Sent More) ∷ Ok (Sent More) ∷ Ok (Delivered 1) ∷ []
unfolding digits after is_full is_large written_string
e_last = simp (entries-inserted, entries-removed, get-entries, len-entries, entries-empty)

-- a mirror that is restarted from a prefix of what was saved, and then from all of it
abbrev c_log : List (List Change)
c_log = (set_team (codes "1") ∷ set_team (codes "2") ∷ []) ∷ []

abbrev c_at : Option Position → World
c_at place =
    record {
      limits = record { history = by_count 1; staged = 100; memory = None };
      framing = Close;
      log = c_log;
      primary = record { at = 1; low = 0 };
      mirrors = record { place = place; upstream = 0; afresh = false; connection = None; saved = Some 1 } ∷ [];
    }

c_prefix : run_all (world 1 100 2) (DoCommit (set_team (codes "1") ∷ set_team (codes "2") ∷ []) ∷ Connect 1 0 0 ∷ Deliver 1 9999 ∷ Save 1 ∷ Restart 1 136 ∷ [])
    ≡ (Ok (Committed (codes "1")) ∷ Ok Opened ∷ Ok (Delivered 1) ∷ Ok (Saved 137) ∷ Ok (Restarted false) ∷ [], c_at None)
unfolding digits after is_full is_large written_string
c_prefix = simp (entries-inserted, entries-removed, get-entries, len-entries, entries-empty)

c_all : run_all (c_at None) (Connect 1 0 0 ∷ Deliver 1 9999 ∷ Restart 1 137 ∷ Serve 1 ∷ [])
    ≡ (Ok Opened ∷ Ok (Delivered 1) ∷ Ok (Restarted true) ∷ Err NoConnection ∷ [], c_at (position 1 1))
unfolding digits after written_string
c_all = simp (entries-inserted, entries-removed, get-entries, len-entries, entries-empty)

no_saved : (run_all (world 1 100 2) (Save 0 ∷ [])).0 ≡ Err NoNode ∷ []
unfolding digits
no_saved = refl

-- refusals, and a node that has published nothing
no_node : (run_all (world 1 100 2) (Connect 2 1 0 ∷ [])).0 ≡ Err NoNode ∷ []
unfolding digits
no_node = refl

no_primary : (run_all (world 1 100 2) (Deliver 0 1 ∷ [])).0 ≡ Err NoNode ∷ []
unfolding digits
no_primary = refl

no_connection : (run_all (world 1 100 2) (Serve 1 ∷ [])).0 ≡ Err NoConnection ∷ []
unfolding digits
no_connection = refl

empty_batch : (run_all (world 1 100 2) (DoCommit [] ∷ [])).0 ≡ Err (CommitRefused EmptyBatch) ∷ []
unfolding digits
empty_batch = refl

not_yet : (run_all (world 1 100 3) (Connect 2 1 0 ∷ [])).0 ≡ Ok NotYet ∷ []
unfolding digits
not_yet = refl
