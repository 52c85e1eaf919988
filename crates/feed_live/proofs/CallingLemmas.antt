-- For what a server is left: by what its device answered last.
use Rattle.std.proofs.Common.{◌≡◌, ◌≢◌, ◌∙◌, ◌⊎◌, inl, inr, refl, sym, ap, subst, ℕ, List, [], ◌∷◌, ◌++◌, append_assoc, Some, None}
use Rattle.std.specs.Prelude.{Bool, true, false, zero, suc, ◌+◌, option_map, Result, Ok, Err}
use Rattle.feed_device.specs.declared.device.Stop.{Stop}
use Rattle.feed_device.specs.declared.device.Stop.TheVariants.{Waits, Gone, Failed}
use Rattle.feed_device.specs.Calls.{Answers, LinkCalls, HasRead, HasWritten, AnsweredSince}
use Rattle.feed_live.specs.declared.source.Source.{Source}
use Rattle.feed_live.specs.declared.source.Reach.TheVariants.{Away, Asks, Reads}
use Rattle.feed_live.specs.Afresh.{has_come}
use Rattle.feed_live.specs.Relaying.{MayHaveMore}
use Rattle.feed_live.specs.Calling.{AsRead, AsWritten, FailsToConnect, HasAnsweredLast, HasBroken, HadToWait, ReadAtOnce, LeavesOnlyFor, MarksMore, HasCause, ReadsNothing, ReadsAsBefore}

-- it was called before, too
then_last : {A : Type 0} (answer : Result A Stop) (old new later : Answers A) → AnsweredSince old new → HasAnsweredLast answer new later → HasAnsweredLast answer old later
then_last answer None new later one (more, is) = (more, is ∙ ap (option_map (λ all. (answer ∷ more) ++ all)) one.1)
then_last answer (Some all) new later one (more, is) = (
  more ++ one.0,
  is ∙ ap (option_map (λ all. (answer ∷ more) ++ all)) one.1
      ∙ ap (λ x. Some (answer ∷ x)) (sym (append_assoc more one.0 all)),
)

pub then_broken : (old new later : Answers ℕ) → AnsweredSince old new → HasBroken new later → HasBroken old later
then_broken old new later since (answer, breaks, last) = (answer, breaks, then_last answer old new later since last)

pub then_read_on : (old new later : Answers ℕ) → AnsweredSince old new → ReadAtOnce new later → ReadAtOnce old later
then_read_on old new later since (answer, came, last) = (answer, came, then_last answer old new later since last)

-- there was a connection before this, so it is left for this alone
pub leaves_after : {M N : Type 0} (old mid new : Source) → mid.reach ≢ Away → (M → N) → LeavesOnlyFor M mid new → LeavesOnlyFor N old new
leaves_after {M} {N} old mid new there so leaves away = by (leaves away)
  where
    by : (mid.reach ≡ Away) ⊎ M → (old.reach ≡ Away) ⊎ N
    by (inl gone) = absurd (there gone)
    by (inr left) = inr (so left)

-- before this it was left for one thing alone, and within this for another one
pub leaves_then : {K M N : Type 0} (old mid new : Source) → (K → N) → (M → N) → LeavesOnlyFor K old mid → LeavesOnlyFor M mid new → LeavesOnlyFor N old new
leaves_then {K} {M} {N} old mid new first second before leaves away = by (leaves away)
  where
    of : (old.reach ≡ Away) ⊎ K → (old.reach ≡ Away) ⊎ N
    of (inl gone) = inl gone
    of (inr left) = inr (first left)

    by : (mid.reach ≡ Away) ⊎ M → (old.reach ≡ Away) ⊎ N
    by (inl gone) = of (before gone)
    by (inr left) = inr (second left)

-- nothing changed, or this is all that did
pub leaves_same : {N : Type 0} (old new : Source) → new.reach ≡ old.reach → LeavesOnlyFor N old new
leaves_same old new same away = inl (sym same ∙ away)

-- ---- what one call does

wrote_leaves : (count : ℕ) (result : Bool) (old new : Source) (now : ℕ) (before after : LinkCalls) (answer : Result ℕ Stop)
    → HasWritten answer before after → AsWritten answer count result old new now → LeavesOnlyFor (HasBroken before.written after.written) old new
wrote_leaves count result old new now before after (Ok zero) calls so away = inr (Ok zero, refl, ([], calls.written))
wrote_leaves count result old new now before after (Ok (suc more)) calls so away =
    let wrong : Asks (count + suc more) ≡ Away = sym (ap (λ s. s.reach) (so.took (suc more) refl (λ none. absurd (cc))).1) ∙ away in absurd (cc)
wrote_leaves count result old new now before after (Err Waits) calls so away = leaves_same old new (ap (λ s. s.reach) (so.waits refl).1) away
wrote_leaves count result old new now before after (Err Gone) calls so away = inr (Err Gone, (λ is. absurd (cc)), ([], calls.written))
wrote_leaves count result old new now before after (Err Failed) calls so away = inr (Err Failed, (λ is. absurd (cc)), ([], calls.written))

-- the request is offered, or all of it was written
pub asked_leaves : (rest : List ℕ) (count : ℕ) (result : Bool) (old new : Source) (now : ℕ) (before after : LinkCalls)
    → (rest ≢ [] → (answer : Result ℕ Stop) × HasWritten answer before after × AsWritten answer count result old new now)
    → (rest ≡ [] → new ≡ record old { reach = Reads }) → LeavesOnlyFor (HasBroken before.written after.written) old new
asked_leaves [] count result old new now before after some none away = let wrong : Reads ≡ Away = sym (ap (λ s. s.reach) (none refl)) ∙ away in absurd (cc)
asked_leaves (byte ∷ rest) count result old new now before after some none away =
    let offered = some (λ is. absurd (cc)) in
    wrote_leaves count result old new now before after offered.0 offered.1 offered.2 away

pub read_leaves : (result : Bool) (old new : Source) (before after : LinkCalls) (answer : Result ℕ Stop)
    → HasRead answer before after → AsRead answer result old new → LeavesOnlyFor (ReadAtOnce before.read after.read) old new
read_leaves result old new before after (Ok count) calls so away = inr (Ok count, (λ is. absurd (cc)), ([], calls.read))
read_leaves result old new before after (Err Waits) calls so away = leaves_same old new (ap (λ s. s.reach) (so.waits refl).1) away
read_leaves result old new before after (Err Gone) calls so away = inr (Err Gone, (λ is. absurd (cc)), ([], calls.read))
read_leaves result old new before after (Err Failed) calls so away = inr (Err Failed, (λ is. absurd (cc)), ([], calls.read))

-- nothing is read in both
pub unread_then : (old mid new : Source) (before between after : LinkCalls) → (new.reach ≢ Away → mid.reach ≢ Away)
    → ReadsNothing old mid before between → ReadsNothing mid new between after → ReadsNothing old new before after
unread_then old mid new before between after there one two =
    record { begun = two.begun ∙ one.begun; read = two.read ∙ one.read; kept = λ stays. two.kept stays ∙ one.kept (there stays) }

-- ---- for what a server may be left in all

pub looked_may : (source : Source) (before between after : LinkCalls) → after.looked ≡ between.looked → FailsToConnect before.looked between.looked → HasCause source before after
looked_may source before between after same (stop, looked) = inl (stop, same ∙ looked)

pub wrote_may : (source : Source) (before between wrote after : LinkCalls) → between.written ≡ before.written → after.written ≡ wrote.written
    → HasBroken between.written wrote.written → HasCause source before after
wrote_may source before between wrote after first last broken =
    inr (inl (subst (λ k. HasBroken k after.written) first (subst (HasBroken between.written) (sym last) broken)))

pub read_may : (old mid : Source) (before between after : LinkCalls) → between.read ≡ before.read → mid.rest.items ≡ old.rest.items
    → ReadAtOnce between.read after.read ⊎ (mid.rest.items ≢ []) → HasCause old before after
read_may old mid before between after same kept (inl came) = inr (inr (inl (subst (λ k. ReadAtOnce k after.read) same came)))
read_may old mid before between after same kept (inr some) = inr (inr (inr (λ none. some (kept ∙ none))))

-- where nothing was kept, nothing is done
pub kept_leaves : {K N : Type 0} (old new : Source) → (old.rest.items ≡ [] → (new ≡ old) × K) → LeavesOnlyFor (N ⊎ (old.rest.items ≢ [])) old new
kept_leaves {K} {N} old new nothing away = by old.rest.items refl
  where
    by : (rest : List ℕ) → old.rest.items ≡ rest → (old.reach ≡ Away) ⊎ (N ⊎ (old.rest.items ≢ []))
    by [] is = inl (sym (ap (λ s. s.reach) (nothing is).0) ∙ away)
    by (byte ∷ rest) is = inr (inr (λ none. let wrong : byte ∷ rest ≡ [] = sym is ∙ none in absurd (cc)))

-- what came afresh is due to settle only once it has published
pub leaves_come : {Q : Type 0} (old new : Source) (due : Bool) → ((has_come old.coming ≡ false) ⊎ Q → due ≡ false) → due ≡ true → LeavesOnlyFor (has_come old.coming ≡ true) old new
leaves_come {Q} old new due none is away = inr (by (has_come old.coming) refl)
  where
    by : (come : Bool) → has_come old.coming ≡ come → has_come old.coming ≡ true
    by true same = same
    by false same = let wrong : false ≡ true = sym (none (inl same)) ∙ is in absurd (cc)

-- ---- whether there is more to be read

-- what was marked stays so, and nothing was read
pub still_marks : (old new : Source) (before after : LinkCalls) → ReadsAsBefore old new → (new.reach ≡ Reads → after ≡ before) → MarksMore old before.read → MarksMore new after.read
still_marks old new before after still same marks reads =
    subst (λ k. (new.has_more ≡ true) ⊎ HadToWait k.read) (sym (same reads)) (by (marks (still reads).0))
  where
    by : (old.has_more ≡ true) ⊎ HadToWait before.read → (new.has_more ≡ true) ⊎ HadToWait before.read
    by (inl more) = inl ((still reads).1 ∙ more)
    by (inr waits) = inr waits

-- as much is marked as before, or more
pub kept_marks : (old new : Source) (answers : Answers ℕ) → new.reach ≡ old.reach → MayHaveMore old new → MarksMore old answers → MarksMore new answers
kept_marks old new answers same may marks reads =
    by (may (λ away. let wrong : Reads ≡ Away = sym reads ∙ away in absurd (cc))) (marks (sym same ∙ reads))
  where
    by : (new.has_more ≡ old.has_more) ⊎ (new.has_more ≡ true) → (old.has_more ≡ true) ⊎ HadToWait answers → (new.has_more ≡ true) ⊎ HadToWait answers
    by (inr more) was = inl more
    by (inl same) (inl more) = inl (same ∙ more)
    by (inl same) (inr waits) = inr waits
