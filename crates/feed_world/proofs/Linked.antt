-- What a mirror has read stays when more is sent on its connection.
use Rattle.std.proofs.Common.{◌≡◌, refl, sym, ap, ◌∙◌, subst, ℕ, ◌+◌, ◌-◌, ◌<◌, ◌≤◌, Bool, true, false, ◌&&◌, arith, List, [], ◌∷◌, ◌++◌, length, take, Option, Some, None, nat_lt, nat_le, ltb-true, leb-true, length-append}
use Rattle.std.specs.Prelude.{if◌then◌else◌, ◌==◌, ◌≢◌}
use Rattle.std.proofs.lemmas.List.{take-append-le}
use Rattle.feed_settings.specs.Limits.{Limits}
use Rattle.feed_changes.specs.declared.change.Change.{Change}
use Rattle.feed_note.specs.Texts.{batch_text}
use Rattle.feed_note.specs.Written.{written, written_line}
use Rattle.feed_node.specs.declared.session.Pulled.{Pulled}
use Rattle.feed_node.specs.declared.session.Pulled.TheVariants.{More, UpToDate, Gone}
use Rattle.feed_node.specs.Mirroring.{MirrorState}
use Rattle.feed_tables.specs.Tables.{listing}
use Rattle.feed_follow.specs.Follower.{FollowerState, FollowsAt}
use Rattle.feed_wire.specs.Framed.{frame}
use Rattle.feed_world.specs.declared.event.Reply.{Reply}
use Rattle.feed_world.specs.declared.event.Reply.TheVariants.{Sent, Idled}
use Rattle.feed_world.specs.Connection.{Connection, Part, Snapshot, Commit, Line_feed, part_text, parts_text, sent_bytes, bytes_sent, come_by, block_onto, blocks_within, moved_by, first_parts, GoOn, IsSentInOrder}
use Rattle.feed_world.specs.Log.{Log, IsLog, state_after, changes_of_commit}
use Rattle.feed_world.specs.Position.{Position, IsPlaceOfLog}
use Rattle.feed_world.specs.States.{ConnectionState, FollowingMirror, IsConnection, IsReading, AreLinked, IsMirror, Moves}
use Rattle.feed_world.specs.Step.{serves, serves_from, idles, with_more, with_line_feed, ended, linked, with_connection, mirror_serves, mirror_idles}
use Rattle.feed_world.specs.World.{Mirror}
use Rattle.feed_world.proofs.Growth.{goes_up, sending_keeps_order}
use Rattle.feed_world.proofs.Listings.{listing_is_some}
use Rattle.feed_world.proofs.Responses.{one_frame_more, come_stays, come_within}
use Rattle.feed_text.proofs.Choices.{second_true as both_true}

-- ---- a batch has text

written_has_text : (c : Change) (token : Option (List ℕ)) → 0 < length (written c token)
written_has_text c token = let l = length-append (written_line c token) (10 ∷ []) in omega arith

pub batch_has_text : (cs : List Change) (token : List ℕ) → cs ≢ [] → 0 < length (batch_text cs token)
batch_has_text [] token some = absurd (some refl)
batch_has_text (c ∷ []) token some = written_has_text c (Some token)
batch_has_text (c ∷ d ∷ cs) token some =
    let l = length-append (written c None) (batch_text (d ∷ cs) token) in
    let w = written_has_text c None in
    omega (arith, l, w)

-- ---- one part more

pub not_within : (n d : ℕ) → d < n → nat_le n d ≡ false
not_within n d h = by (nat_le n d) refl
  where
    by : (b : Bool) → nat_le n d ≡ b → nat_le n d ≡ false
    by true e = let l = leb-true n d e in absurd (omega (arith, h, l))
    by false e = e

blocks_before : (log : Log) (parts : List Part) (part : Part) (d : ℕ) → d ≤ length (parts_text log parts) → 0 < length (part_text log part)
    → blocks_within log (parts ++ part ∷ []) d ≡ blocks_within log parts d
blocks_before log [] part d h some = ap (λ b. if b then block_onto part [] else []) (not_within (length (part_text log part)) d (omega (arith, h, some)))
blocks_before log (p ∷ parts) part d h some =
    let l = length-append (part_text log p) (parts_text log parts) in
    ap (λ bs. if nat_le (length (part_text log p)) d then block_onto p bs else []) (blocks_before log parts part (d - length (part_text log p)) (omega (arith, h, l)) some)

-- ---- parts have text, so blocks are no more than bytes

module _ (limits : Limits) (log : Log) where
  commit_has_text : (k : ℕ) → IsLog limits log → 0 < k → k ≤ length log.commits → 0 < length (part_text log (Commit k))
  commit_has_text k is_log from to = batch_has_text (changes_of_commit log k) (log.token k) ((is_log.accepted k from to).some)

  snapshot_has_text : (k : ℕ) → 0 < length (part_text log (Snapshot k))
  snapshot_has_text k = batch_has_text (listing (state_after log k)) (log.token k) (listing_is_some (state_after log k))

  few_later : IsLog limits log → (k : ℕ) (parts : List Part) (last n : ℕ) → GoOn k parts last → last ≤ length log.commits → length (blocks_within log parts n) ≤ n
  few_later is_log k [] last n g h = omega arith
  few_later is_log k (Line_feed ∷ parts) last n g h = by (few_later is_log k parts last (n - 1) g h) (nat_le 1 n) refl
    where
      by : length (blocks_within log parts (n - 1)) ≤ n - 1 → (b : Bool) → nat_le 1 n ≡ b → length (if b then blocks_within log parts (n - 1) else []) ≤ n
      by later true e = omega (arith, later)
      by later false e = omega arith
  few_later is_log k (Commit j ∷ parts) last n g h =
      by (few_later is_log (k + 1) parts last (n - length (part_text log (Commit j))) g.1 h) (nat_le (length (part_text log (Commit j))) n) refl
    where
      by : length (blocks_within log parts (n - length (part_text log (Commit j)))) ≤ n - length (part_text log (Commit j)) → (b : Bool) → nat_le (length (part_text log (Commit j))) n ≡ b
          → length (if b then Commit j ∷ blocks_within log parts (n - length (part_text log (Commit j))) else []) ≤ n
      by later true e =
          let up = goes_up (k + 1) parts last g.1 in
          let next = g.0 in
          let some = commit_has_text j is_log (omega (arith, next)) (omega (arith, next, up, h)) in
          let fits = leb-true _ _ e in
          omega (arith, some, fits, later)
      by later false e = omega arith
  few_later is_log k (Snapshot j ∷ parts) last n g h = absurd g

  few_either : IsLog limits log → (fresh : Bool) (start : ℕ) (more : List Part) (last n : ℕ) → GoOn start more last → last ≤ length log.commits → length (blocks_within log (first_parts fresh start ++ more) n) ≤ n
  few_either is_log false start more last n g h = few_later is_log start more last n g h
  few_either is_log true start more last n g h = by (nat_le (length (part_text log (Snapshot start))) n) refl
    where
      by : (b : Bool) → nat_le (length (part_text log (Snapshot start))) n ≡ b → length (if b then Snapshot start ∷ blocks_within log more (n - length (part_text log (Snapshot start))) else []) ≤ n
      by true e =
          let some = snapshot_has_text start in
          let fits = leb-true _ _ e in
          let later = few_later is_log start more last (n - length (part_text log (Snapshot start))) g h in
          omega (arith, some, fits, later)
      by false e = omega arith

  -- there are no more blocks than bytes
  pub parts_have_text : (c : Connection) → IsLog limits log → IsSentInOrder c → c.last ≤ length log.commits → (n : ℕ) → length (blocks_within log c.parts n) ≤ n
  parts_have_text c is_log order sent n =
      subst (λ ps. length (blocks_within log ps n) ≤ n) (sym order.parts) (few_either is_log c.fresh c.start order.more c.last n order.go_on sent)

  no_block : (bs : List Part) → length bs ≤ 0 → bs ≡ []
  no_block [] h = refl
  no_block (b ∷ bs) h = absurd (omega (arith, h))

  pub none_at_first : (c : Connection) → IsLog limits log → IsSentInOrder c → c.last ≤ length log.commits → blocks_within log c.parts 0 ≡ []
  none_at_first c is_log order sent = no_block (blocks_within log c.parts 0) (parts_have_text c is_log order sent 0)

module _ (limits : Limits) (log : Log) (m : Mirror) (c : Connection) (reader : FollowerState) (mirror : MirrorState) (reading : IsReading limits log m c reader mirror) (next : Option Connection) where
  ended_reading : IsReading limits log (linked m next) (ended c) reader mirror
  ended_reading =
      let opened = reading.opened in
      let order = opened.order in
      record {
        before = reading.before;
        opened = record { mirror = opened.mirror; start = opened.start; order = record { more = order.more; parts = order.parts; go_on = order.go_on }; sent = opened.sent };
        place = reading.place;
        begun = reading.begun;
        asked = reading.asked;
        standing = reading.standing;
        follows = reading.follows;
        afresh = reading.afresh;
      }

  same_reading : IsReading limits log (linked m next) c reader mirror
  same_reading =
      record {
        before = reading.before;
        opened = reading.opened;
        place = reading.place;
        begun = reading.begun;
        asked = reading.asked;
        standing = reading.standing;
        follows = reading.follows;
        afresh = reading.afresh;
      }

  reading_on : (part : Part) (last : ℕ) → c.delivered ≤ bytes_sent log c → 0 < length (part_text log part) → last ≤ length log.commits
      → IsSentInOrder (record c { parts = c.parts ++ part ∷ []; last = last })
      → IsReading limits log (linked m next) (record c { parts = c.parts ++ part ∷ []; last = last }) reader mirror
  reading_on part last within some sent order =
      let opened = reading.opened in
      let come = come_stays log c.framing c.parts part c.delivered within in
      let blocks = ap (blocks_within log (c.parts ++ part ∷ [])) come ∙ blocks_before log c.parts part (come_by log c c.delivered) (come_within log c c.delivered) some in
      let bytes = ap (take c.delivered) (one_frame_more log c.framing c.parts part) ∙ take-append-le c.delivered (sent_bytes log c) (frame c.framing (part_text log part)) within in
      record {
        before = reading.before;
        opened = record { mirror = opened.mirror; start = opened.start; order = order; sent = sent };
        place = reading.place ∙ ap (moved_by limits.history log reading.before) (sym blocks);
        begun = reading.begun;
        asked = reading.asked;
        standing = reading.standing;
        follows = subst (λ t. FollowsAt reading.begun t reading.standing reader mirror) (sym bytes) reading.follows;
        afresh = λ e. let h = reading.afresh e in (h.0, blocks ∙ h.1);
      }

  line_feed_reading : c.delivered ≤ bytes_sent log c → IsReading limits log (linked m next) (with_line_feed c) reader mirror
  line_feed_reading within = reading_on Line_feed c.last within (omega arith) reading.opened.sent (sending_keeps_order.line_feed c reading.opened.order)

  more_reading : IsLog limits log → c.delivered ≤ bytes_sent log c → c.last < length log.commits → IsReading limits log (linked m next) (with_more c) reader mirror
  more_reading is_log within sent =
      reading_on (Commit (c.last + 1)) (c.last + 1) within (commit_has_text limits log (c.last + 1) is_log (omega arith) (omega (arith, sent))) (omega (arith, sent))
      (sending_keeps_order.commit c reading.opened.order)

-- ---- what a serve leaves

chosen : {X : Type 0} (P : X → Type 0) (b : Bool) (x y : X) → (b ≡ true → P x) → P y → P (if b then x else y)
chosen P true x y h k = h refl
chosen P false x y h k = k

served_any : (limits : Limits) (log : Log) (c : Connection) (place : Option Position) (P : Connection → Type 0) → IsPlaceOfLog limits log place
    → P c → P (ended c) → (c.last < length log.commits → P (with_more c)) → P (serves c place).1
served_any limits log c place P h now over more = chosen (λ (r : Pulled × Connection). P r.1) c.over (Gone, c) (serves_from c place) (λ e. now) (from place h)
  where
    from : (q : Option Position) → IsPlaceOfLog limits log q → P (serves_from c q).1
    from None i = over
    from (Some p) i =
        chosen (λ (r : Pulled × Connection). P r.1) (c.last == p.at) (UpToDate, c) (if nat_le p.low c.last && nat_lt c.last p.at then (More, with_more c) else (Gone, ended c)) (λ e. now)
        (chosen (λ (r : Pulled × Connection). P r.1) (nat_le p.low c.last && nat_lt c.last p.at) (More, with_more c) (Gone, ended c)
        (λ e. let less = ltb-true c.last p.at (both_true (nat_le p.low c.last) (nat_lt c.last p.at) e) in let within = i.in_log in more (omega (arith, less, within))) over)

-- ---- mirrors

-- the mirror with another connection
mirror_on : (limits : Limits) (log : Log) (m : Mirror) (f : FollowingMirror) (next : Option Connection) (other : Option ConnectionState) → IsMirror limits log m f
    → AreLinked limits log (linked m next) next (record f { connection = other }) other
    → IsMirror limits log (linked m next) (record f { connection = other })
mirror_on limits log m f next other is l = record { place = is.place; upstream = is.upstream; bounds = is.bounds; node = is.node; since = is.since; linked = l; in_log = is.in_log; saved = is.saved }

pub mirror_served : (limits : Limits) (log : Log) (m : Mirror) (place : Option Position) (f : FollowingMirror) (s : ConnectionState) → f.connection ≡ Some s
    → IsLog limits log → IsPlaceOfLog limits log place → IsMirror limits log m f → (pulled : Pulled) (t : ConnectionState) → t.reader ≡ s.reader
    → ((c : Connection) → c.last ≤ length log.commits → IsConnection log c s → (pulled ≡ (serves c place).0) × IsConnection log (serves c place).1 t)
    → Moves limits log (mirror_serves m place) (Sent pulled) (record f { connection = Some t })
mirror_served limits log m place f s held is_log is_place is pulled t same serving =
    by m.connection (subst (AreLinked limits log m m.connection f) held is.linked)
  where
    by : (o : Option Connection) → AreLinked limits log m o f (Some s)
        → Moves limits log (with_connection o (λ c. (Sent (serves c place).0, linked m (Some (serves c place).1)))) (Sent pulled) (record f { connection = Some t })
    by None l = absurd l
    by (Some c) l =
        let served = serving c l.1.opened.sent l.0 in
        let within = l.0.within in (
          ap Sent served.0,
          mirror_on limits log m f (Some (serves c place).1) (Some t) is (
            served.1,
            subst (λ reader. IsReading limits log (linked m (Some (serves c place).1)) (serves c place).1 reader f.mirror) (sym same)
                (served_any limits log c place (λ d. IsReading limits log (linked m (Some (serves c place).1)) d s.reader f.mirror) is_place
                (same_reading limits log m c s.reader f.mirror l.1 (Some (serves c place).1))
                (ended_reading limits log m c s.reader f.mirror l.1 (Some (serves c place).1))
                (λ sent. more_reading limits log m c s.reader f.mirror l.1 (Some (serves c place).1) is_log within sent)),
          ),
        )

pub mirror_idled : (limits : Limits) (log : Log) (m : Mirror) (f : FollowingMirror) (s : ConnectionState) → f.connection ≡ Some s
    → IsMirror limits log m f → (reply : Reply) (t : ConnectionState) → t.reader ≡ s.reader
    → ((c : Connection) → IsConnection log c s → (reply ≡ (idles c).0) × IsConnection log (idles c).1 t)
    → Moves limits log (mirror_idles m) reply (record f { connection = Some t })
mirror_idled limits log m f s held is reply t same idling =
    by m.connection (subst (AreLinked limits log m m.connection f) held is.linked)
  where
    by : (o : Option Connection) → AreLinked limits log m o f (Some s)
        → Moves limits log (with_connection o (λ c. ((idles c).0, linked m (Some (idles c).1)))) reply (record f { connection = Some t })
    by None l = absurd l
    by (Some c) l =
        let idled = idling c l.0 in
        let within = l.0.within in (
          idled.0,
          mirror_on limits log m f (Some (idles c).1) (Some t) is (
            idled.1,
            subst (λ reader. IsReading limits log (linked m (Some (idles c).1)) (idles c).1 reader f.mirror) (sym same)
                (chosen (λ (r : Reply × Connection). IsReading limits log (linked m (Some (idles c).1)) r.1 s.reader f.mirror) c.over _ (Idled, with_line_feed c)
                (λ e. same_reading limits log m c s.reader f.mirror l.1 (Some (idles c).1))
                (line_feed_reading limits log m c s.reader f.mirror l.1 (Some (idles c).1) within)),
          ),
        )
