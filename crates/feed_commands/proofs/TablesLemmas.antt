-- Lemmas on what a mirror shows that was fed an input.
use Rattle.std.proofs.Common.{◌≡◌, ◌≢◌, ℕ, ◌<◌, ◌≤◌, ◌+◌, length, arith, refl, sym, ap, ◌∙◌, subst, length-append, append_assoc, Bool, true, false, true≢false, OnOk, IfErr, List, [], ◌++◌, take, Option, None, Some, Result, Ok, Err, is_some, option_map}
use Rattle.std.proofs.lemmas.List.{append-nil, length-take-le}
use Rattle.std.specs.Prelude.{IsErrOf}
use Rattle.std.specs.Io.KnownBytes.{Appends, Consumes, Keeps}
use Rattle.std.proofs.KnownBytes.{Consumes-nil, Consumes-trans, Consumes-kept}
use Rattle.feed_settings.specs.Limits.{Limits}
use Rattle.feed_note.specs.declared.line.Line.{Line}
use Rattle.feed_node.specs.Publishing.{Published}
use Rattle.feed_node.specs.Texts.{published_text}
use Rattle.feed_node.specs.States.{token_of}
use Rattle.feed_http.specs.Device.{AppendsPrefix}
use Rattle.feed_node.specs.declared.fault.FeedFault.{FeedFault}
use Rattle.feed_node.specs.declared.fault.FeedFault.TheVariants as feed
use Rattle.feed_node.specs.Mirroring.{MirrorState, StandsAt, Fed, HasStopped, Faulted, first_opening}
use Rattle.feed_node.specs.Reading.{Reads, FaultsAt, reads}
use Rattle.feed_relay.specs.Serving.{most_reads}
use Rattle.feed_commands.specs.Fault.{fault_of_feed}
use Rattle.feed_commands.specs.Tables.{FedSoFar, HasRead, HasReadOn, WasFed, HasFaulted, IsFed, Printed, PrintedSome, PrintedPrefix, outcome_of, TablesFail}
use Rattle.feed_commands.specs.Streams.{Streams}
use Rattle.feed_commands.specs.declared.fault.Fault.{Fault}
use Rattle.feed_commands.specs.declared.fault.Fault.TheVariants as fault

-- what a read gave that gave something
pub positive : (n : ℕ) (buf : List ℕ) → n ≢ 0 → n ≤ length buf → 0 < length (take n buf)
positive n buf some fits = let long : length (take n buf) ≡ n = length-take-le n buf fits in omega arith

-- nothing was read yet
unfoldable pub stands_first : (a : Option (List ℕ)) (mirror : MirrorState) → StandsAt first_opening [] [] mirror → FedSoFar mirror.limits 0 a a [] mirror
stands_first a mirror s = record { bytes = []; notes = []; many = omega arith; read = Consumes-nil a; stands = s; limits_are = refl }

-- a read that gave nothing more
unfoldable pub stands_kept : (limits : Limits) (least : ℕ) (a b c : Option (List ℕ)) (mirror : MirrorState) → Keeps b c → FedSoFar limits least a b [] mirror → FedSoFar limits least a c [] mirror
stands_kept limits least a b c mirror k s =
    record { bytes = s.bytes; notes = s.notes; many = s.many; read = Consumes-kept a b c (s.bytes ++ []) s.read k; stands = s.stands; limits_are = s.limits_are }

-- a read that gave this piece, which is not fed yet
unfoldable pub stands_read : (limits : Limits) (least : ℕ) (a b c : Option (List ℕ)) (piece : List ℕ) (mirror : MirrorState) → 0 < length piece → Consumes b c piece
    → FedSoFar limits least a b [] mirror → FedSoFar limits (least + 1) a c piece mirror
stands_read limits least a b c piece mirror some r s =
    let bytes_are : s.bytes ++ [] ≡ s.bytes = append-nil s.bytes in
    let many : least ≤ length (s.bytes ++ []) = s.many in
    record {
      bytes = s.bytes;
      notes = s.notes;
      many = let all : length (s.bytes ++ piece) ≡ length s.bytes + length piece = length-append s.bytes piece in let fed = ap length bytes_are in omega arith;
      read = Consumes-trans a b c s.bytes piece (subst (Consumes a b) bytes_are s.read) r;
      stands = s.stands;
      limits_are = s.limits_are;
    }

-- some of the bytes behind are fed
unfoldable pub stands_on : (limits : Limits) (least : ℕ) (a b : Option (List ℕ)) (rest fed behind : List ℕ) (old new : MirrorState) (count : ℕ) (s : FedSoFar limits least a b rest old)
    → fed ++ behind ≡ rest → Fed first_opening s.bytes fed s.notes old new count → FedSoFar limits least a b behind new
stands_on limits least a b rest fed behind old new count s cut f =
    let whole : s.bytes ++ rest ≡ (s.bytes ++ fed) ++ behind = ap (λ l. s.bytes ++ l) (sym cut) ∙ sym (append_assoc s.bytes fed behind) in
    record {
      bytes = s.bytes ++ fed;
      notes = s.notes ++ f.more;
      many = subst (λ l. least ≤ length l) whole s.many;
      read = subst (Consumes a b) whole s.read;
      stands = f.stands;
      limits_are = f.limits ∙ s.limits_are;
    }

-- what stands was read
pub read_by : (limits : Limits) (least : ℕ) (a b : Option (List ℕ)) (mirror : MirrorState) → FedSoFar limits least a b [] mirror → HasRead limits a b mirror.node.published
read_by limits least a b mirror s = record {
  bytes = s.bytes;
  notes = s.notes;
  read = subst (Consumes a b) (append-nil s.bytes) s.read;
  good = subst (λ l. Reads l first_opening s.bytes s.notes) s.limits_are s.stands.nothing_bad;
  shown_is = ap (λ m. m.node.published) s.stands.state
      ∙ ap (λ l. (reads l.history first_opening s.notes).published) s.limits_are;
}

-- all reads that are allowed gave something
pub read_on_by : (limits : Limits) (least : ℕ) (a b : Option (List ℕ)) (mirror : MirrorState) → most_reads ≤ least → FedSoFar limits least a b [] mirror
    → HasReadOn limits a b mirror.node.published
unfolding read_by
read_on_by limits least a b mirror all s = record {
  whole = read_by limits least a b mirror s;
  many = let many : least ≤ length (s.bytes ++ []) = s.many in let same = ap length (append-nil s.bytes) in omega arith;
}

-- a bad line of what is fed
faulted_at : (limits : Limits) (least : ℕ) (a b : Option (List ℕ)) (rest fed behind : List ℕ) (old new : MirrorState) (why : FeedFault) (line : Option ℕ) (s : FedSoFar limits least a b rest old)
    → fed ++ behind ≡ rest → WasFed line behind → (notes : List Line) × HasStopped first_opening (s.bytes ++ fed) notes why old new
    → HasFaulted limits (record { fault = why; line = line }) a b new.node.published
faulted_at limits least a b rest fed behind old new why line s cut left (notes, stopped) = record {
  bytes = s.bytes ++ fed;
  behind = behind;
  notes = notes;
  read = subst (Consumes a b) (ap (λ l. s.bytes ++ l) (sym cut) ∙ sym (append_assoc s.bytes fed behind)) s.read;
  left = left;
  first = subst (λ l. FaultsAt l first_opening (s.bytes ++ fed) notes why) s.limits_are stopped.first;
  shown_is = ap (λ m. m.node.published) stopped.state
      ∙ ap (λ l. (reads l.history first_opening notes).published) s.limits_are;
}

-- the same of each fault but want of memory
pub stopped_at : (limits : Limits) (least : ℕ) (a b : Option (List ℕ)) (rest fed behind : List ℕ) (old new : MirrorState) (why : FeedFault) (line : Option ℕ) (s : FedSoFar limits least a b rest old)
    → fed ++ behind ≡ rest → WasFed line behind → Faulted first_opening s.bytes fed old new why → why ≢ feed.Memory
    → HasFaulted limits (record { fault = why; line = line }) a b new.node.published
stopped_at limits least a b rest fed behind old new feed.NotOpen line s cut left f n = faulted_at limits least a b rest fed behind old new feed.NotOpen line s cut left f
stopped_at limits least a b rest fed behind old new feed.LongLine line s cut left f n = faulted_at limits least a b rest fed behind old new feed.LongLine line s cut left f
stopped_at limits least a b rest fed behind old new (feed.Line why) line s cut left f n = faulted_at limits least a b rest fed behind old new (feed.Line why) line s cut left f
stopped_at limits least a b rest fed behind old new feed.StageFull line s cut left f n = faulted_at limits least a b rest fed behind old new feed.StageFull line s cut left f
stopped_at limits least a b rest fed behind old new feed.Memory line s cut left f n = absurd (n refl)

told_at : (limits : Limits) (a b : Option (List ℕ)) (shown : Option Published) (why : FeedFault) (line : Option ℕ)
    → (why ≢ feed.Memory → HasFaulted limits (record { fault = why; line = line }) a b shown) → fault_of_feed why line ≢ fault.Memory
    → IsFed limits (Err (fault_of_feed why line)) a b shown
told_at limits a b shown feed.NotOpen line h n = h (λ e. absurd (cc))
told_at limits a b shown feed.LongLine line h n = h (λ e. absurd (cc))
told_at limits a b shown (feed.Line why) line h n = h (λ e. absurd (cc))
told_at limits a b shown feed.StageFull line h n = h (λ e. absurd (cc))
told_at limits a b shown feed.Memory line h n = absurd (n refl)

-- the fault of a feed, told as that of a command
pub faulted_by : (limits : Limits) (a b : Option (List ℕ)) (shown : Option Published) (why : FeedFault) (line : Option ℕ) (told : Fault)
    → (why ≢ feed.Memory → HasFaulted limits (record { fault = why; line = line }) a b shown) → told ≡ fault_of_feed why line → told ≢ fault.Memory
    → IsFed limits (Err told) a b shown
faulted_by limits a b shown why line told h e n =
    subst (λ t. IsFed limits (Err t) a b shown) (sym e) (told_at limits a b shown why line h (λ is. n (e ∙ is)))

-- ---- what was printed

-- the prefix of the text was printed
pub prefix_of : (limits given : Limits) (s : Streams) (text all : List ℕ) (ended : Result (Unit {0}) Fault) (shown : Option Published)
    → IsFed given ended s.input_old s.input_new shown → given ≡ limits → text ≡ all → all ≡ published_text shown → AppendsPrefix s.out_old s.out_new text → PrintedPrefix limits s
prefix_of limits given s text all ended shown fed e same is prefix = record {
  ended = ended;
  shown = shown;
  fed = subst (λ l. IsFed l ended s.input_old s.input_new shown) e fed;
  printed = subst (AppendsPrefix s.out_old s.out_new) (same ∙ is) prefix;
}

-- something is published exactly where there is a token
has_pair : (shown : Option Published) → is_some (token_of shown) ≡ is_some shown
has_pair None = refl
has_pair (Some pair) = refl

pub is_some_kept : {A B : Type 0} (f : A → B) (o : Option A) → is_some o ≡ is_some (option_map f o)
is_some_kept f None = refl
is_some_kept f (Some x) = refl

none_where : (shown : Option Published) → is_some shown ≡ false → shown ≡ None
none_where None e = refl
none_where (Some pair) e = absurd (true≢false e)

-- what came of the feeding and the printing
record IsDone (limits : Limits) (ended : Result (Unit {0}) Fault) (s : Streams) : Type 0 where
  whole : Printed limits ended s
  is_published : Bool
  told : is_some whole.shown ≡ is_published

ok_by : (limits : Limits) (s : Streams) (ended : Result (Unit {0}) Fault) (d : IsDone limits ended s)
    → OnOk (outcome_of ended d.is_published) (PrintedSome limits s)
ok_by limits s (Err why) d = tt
ok_by limits s (Ok all) d = by d.is_published refl
  where
    by : (t : Bool) → d.is_published ≡ t → OnOk (outcome_of (Ok all) t) (PrintedSome limits s)
    by true e = record { whole = d.whole; some = d.told ∙ e }
    by false e = tt

err_by : (limits : Limits) (s : Streams) (ended : Result (Unit {0}) Fault) (d : IsDone limits ended s)
    → IfErr (outcome_of ended d.is_published) (λ why. TablesFail limits why s)
err_by limits s (Ok all) d = by d.is_published refl
  where
    by : (t : Bool) → d.is_published ≡ t → IfErr (outcome_of (Ok all) t) (λ why. TablesFail limits why s)
    by true e = tt
    by false e = record { whole = d.whole; none = none_where d.whole.shown (d.told ∙ e) }
err_by limits s (Err fault.Read) d = d.whole
err_by limits s (Err fault.TooManyReads) d = d.whole
err_by limits s (Err (fault.Feed why)) d = d.whole
err_by limits s (Err fault.Memory) d = absurd d.whole.fed
err_by limits s (Err fault.Write) d = absurd d.whole.fed
err_by limits s (Err fault.TooLong) d = absurd d.whole.fed
err_by limits s (Err (fault.Survey why)) d = absurd d.whole.fed
err_by limits s (Err (fault.Batches why)) d = absurd d.whole.fed
err_by limits s (Err (fault.Play why)) d = absurd d.whole.fed
err_by limits s (Err (fault.Audit why)) d = absurd d.whole.fed
err_by limits s (Err fault.Differs) d = absurd d.whole.fed
err_by limits s (Err fault.Ended) d = absurd d.whole.fed
err_by limits s (Err fault.Unpublished) d = absurd d.whole.fed
err_by limits s (Err fault.NoToken) d = absurd d.whole.fed
err_by limits s (Err (fault.Place why)) d = absurd d.whole.fed
err_by limits s (Err (fault.Address why)) d = absurd d.whole.fed
err_by limits s (Err (fault.Commit why)) d = absurd d.whole.fed
err_by limits s (Err (fault.Network why)) d = absurd d.whole.fed

done_by : (limits : Limits) (s : Streams) (text all : List ℕ) (ended : Result (Unit {0}) Fault) (shown : Option Published) (is_published : Bool)
    → IsFed limits ended s.input_old s.input_new shown → text ≡ all → all ≡ published_text shown → Appends s.out_old s.out_new text → is_published ≡ is_some (token_of shown) → IsDone limits ended s
done_by limits s text all ended shown is_published fed same is printed told = record {
  whole = record { shown = shown; fed = fed; printed = subst (Appends s.out_old s.out_new) (same ∙ is) printed };
  is_published = is_published;
  told = sym (told ∙ has_pair shown);
}

-- the command's two promises
pub printed_ok : (limits given : Limits) (s : Streams) (text all : List ℕ) (ended result : Result (Unit {0}) Fault) (shown : Option Published) (is_published : Bool)
    → IsFed given ended s.input_old s.input_new shown → given ≡ limits → text ≡ all → all ≡ published_text shown → Appends s.out_old s.out_new text → is_published ≡ is_some (token_of shown)
    → result ≡ outcome_of ended is_published → OnOk result (PrintedSome limits s)
unfolding done_by
printed_ok limits given s text all ended result shown is_published fed e_limits same is printed told e =
    subst (λ r. OnOk r (PrintedSome limits s)) (sym e) (ok_by limits s ended (done_by limits s text all ended shown is_published (subst (λ l. IsFed l ended s.input_old s.input_new shown) e_limits fed) same is printed told))

pub printed_err : (limits given : Limits) (s : Streams) (text all : List ℕ) (ended result : Result (Unit {0}) Fault) (shown : Option Published) (is_published : Bool)
    → IsFed given ended s.input_old s.input_new shown → given ≡ limits → text ≡ all → all ≡ published_text shown → Appends s.out_old s.out_new text → is_published ≡ is_some (token_of shown)
    → result ≡ outcome_of ended is_published → IfErr result (λ why. TablesFail limits why s)
unfolding done_by
printed_err limits given s text all ended result shown is_published fed e_limits same is printed told e =
    subst (λ r. IfErr r (λ why. TablesFail limits why s)) (sym e) (err_by limits s ended (done_by limits s text all ended shown is_published (subst (λ l. IsFed l ended s.input_old s.input_new shown) e_limits fed) same is printed told))

-- what is told is what came of the feeding, but for nothing published
pub came_of_feeding : (fed : Result (Unit {0}) Fault) (is_published : Bool) (why : Fault) → why ≢ fault.Unpublished
    → IsErrOf (outcome_of fed is_published) why → IsErrOf fed why
came_of_feeding (Ok all) true why other e = absurd (cc)
came_of_feeding (Ok all) false why other e = absurd (other (cc))
came_of_feeding (Err fault) is_published why other e = e

pub feeding_writes_nothing : (limits : Limits) (fed : Result (Unit {0}) Fault) (old new : Option (List ℕ)) (shown : Option Published)
    → (fed ≢ Err fault.Memory → IsFed limits fed old new shown) → IsErrOf fed fault.Write → ⊥
feeding_writes_nothing limits fed old new shown h is = subst (λ f. IsFed limits f old new shown) is (h (λ m. absurd (cc)))
