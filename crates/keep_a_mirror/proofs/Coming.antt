-- What has come of a connection, piece by piece.
use Rattle.std.proofs.Common.{◌≡◌, refl, sym, ap, ◌∙◌, subst, ℕ, List, [], ◌++◌, append_assoc, append-nil, take, drop}
use Rattle.std.proofs.lemmas.List.{take-append-drop}
use Rattle.std.specs.Prelude.{Result, Err, IfErr}
use Rattle.feed_settings.specs.Limits.{Limits}
use Rattle.feed_note.specs.declared.line.Line.{Line}
use Rattle.feed_node.specs.declared.fault.FeedFault.{FeedFault}
use Rattle.feed_node.specs.declared.fault.FeedFault.TheVariants as fault
use Rattle.feed_node.specs.Reading.{Opening, Reads, FaultsAt}
use Rattle.feed_node.specs.Mirroring.{MirrorState, StandsAt, Fed, Faulted, HasStopped, HasLost, present_opening, mirror_after, cut_off}
use Rattle.keep_a_mirror.specs.Following.{HasFollowed, EndsBy, HasGivenUp, shows_after}

-- the mirror stands after some of the bytes, and these are the others
pub record HasCome (limits : Limits) (opening : Opening) (all behind : List ℕ) (mirror : MirrorState) : Type 0 where
  pub bytes : List ℕ
  pub notes : List Line
  pub whole : bytes ++ behind ≡ all
  pub stands : StandsAt opening bytes notes mirror
  pub limits_are : mirror.limits ≡ limits

pub none_yet : (limits : Limits) (opening : Opening) (all : List ℕ) (mirror : MirrorState) → StandsAt opening [] [] mirror → mirror.limits ≡ limits
    → HasCome limits opening all all mirror
none_yet limits opening all mirror stands same = record { bytes = []; notes = []; whole = refl; stands = stands; limits_are = same }

-- one piece more
pub one_more : (limits : Limits) (opening : Opening) (all behind prefix back : List ℕ) (old new : MirrorState) (count : ℕ) (come : HasCome limits opening all behind old)
    → prefix ++ back ≡ behind → Fed opening come.bytes prefix come.notes old new count → HasCome limits opening all back new
one_more limits opening all behind prefix back old new count come cut fed = record {
  bytes = come.bytes ++ prefix;
  notes = come.notes ++ fed.more;
  whole = append_assoc come.bytes prefix back ∙ ap (λ t. come.bytes ++ t) cut ∙ come.whole;
  stands = fed.stands;
  limits_are = fed.limits ∙ come.limits_are;
}

-- the same notes under equal limits
same_shown : (old mirror : MirrorState) (notes : List Line) (new : MirrorState) → mirror.limits ≡ old.limits
    → new ≡ cut_off (mirror_after mirror.limits (present_opening old) notes []) → new ≡ shows_after old notes
same_shown old mirror notes new same e = e ∙ ap (λ l. cut_off (mirror_after l (present_opening old) notes [])) same

followed_at : (old : MirrorState) (all bytes : List ℕ) (notes : List Line) (mirror new : MirrorState) → bytes ≡ all → mirror.limits ≡ old.limits
    → StandsAt (present_opening old) bytes notes mirror → new ≡ cut_off mirror → HasFollowed old all new
followed_at old all bytes notes mirror new whole same stands cut = record {
  notes = notes;
  nothing_bad = subst (λ t. Reads old.limits (present_opening old) t notes) whole (subst (λ l. Reads l (present_opening old) bytes notes) same stands.nothing_bad);
  state = same_shown old mirror notes new same (cut ∙ ap cut_off stands.state);
}

-- all has come, and the connection is cut
pub all_come : (old : MirrorState) (all behind : List ℕ) (mirror new : MirrorState) → HasCome old.limits (present_opening old) all behind mirror → behind ≡ []
    → new ≡ cut_off mirror → HasFollowed old all new
all_come old all behind mirror new come none cut =
    followed_at old all come.bytes come.notes mirror new (sym (append-nil come.bytes) ∙ ap (λ t. come.bytes ++ t) (sym none) ∙ come.whole) come.limits_are come.stands cut

pub cut_in_two : (n : ℕ) (all prefix back : List ℕ) → prefix ≡ take n all → back ≡ drop n all → prefix ++ back ≡ all
cut_in_two n all prefix back f b = ap (λ t. t ++ back) f ∙ ap (λ t. take n all ++ t) b ∙ take-append-drop n all

-- what came, a prefix of the next piece, and all behind that
in_all : (bytes counted uncounted piece back rest all : List ℕ) → counted ++ uncounted ≡ piece → piece ++ back ≡ rest → bytes ++ rest ≡ all
    → (bytes ++ counted) ++ (uncounted ++ back) ≡ all
in_all bytes counted uncounted piece back rest all c p w =
    append_assoc bytes counted (uncounted ++ back)
    ∙ ap (λ t. bytes ++ t) (sym (append_assoc counted uncounted back) ∙ ap (λ t. t ++ back) c ∙ p) ∙ w

stopped_at : (old mirror : MirrorState) (bytes piece back rest all : List ℕ) (why : FeedFault) (new : MirrorState) → mirror.limits ≡ old.limits
    → piece ++ back ≡ rest → bytes ++ rest ≡ all → ((notes : List Line) → FaultsAt old.limits (present_opening old) (bytes ++ piece) notes why → EndsBy old.limits (present_opening old) (bytes ++ piece) notes why)
    → (notes : List Line) × HasStopped (present_opening old) (bytes ++ piece) notes why mirror new → HasGivenUp old all why new
stopped_at old mirror bytes piece back rest all why new same cut whole ends (notes, stopped) = record {
  prefix = bytes ++ piece;
  behind = back;
  whole = append_assoc bytes piece back ∙ ap (λ t. bytes ++ t) cut ∙ whole;
  notes = notes;
  ends = ends notes (subst (λ l. FaultsAt l (present_opening old) (bytes ++ piece) notes why) same stopped.first);
  state = same_shown old mirror notes new same stopped.state;
}

lost_at : (old mirror : MirrorState) (bytes piece back rest all : List ℕ) (new : MirrorState) → mirror.limits ≡ old.limits → piece ++ back ≡ rest → bytes ++ rest ≡ all
    → HasLost (present_opening old) bytes piece mirror new → HasGivenUp old all fault.Memory new
lost_at old mirror bytes piece back rest all new same cut whole lost = record {
  prefix = bytes ++ lost.counted;
  behind = lost.uncounted ++ back;
  whole = in_all bytes lost.counted lost.uncounted piece back rest all lost.whole cut whole;
  notes = lost.notes;
  ends = subst (λ l. Reads l (present_opening old) (bytes ++ lost.counted) lost.notes) same lost.nothing_bad;
  state = same_shown old mirror lost.notes new same lost.state;
}

given_up_at : (old mirror : MirrorState) (bytes piece back rest all : List ℕ) (why : FeedFault) (new : MirrorState) → mirror.limits ≡ old.limits → piece ++ back ≡ rest
    → bytes ++ rest ≡ all → Faulted (present_opening old) bytes piece mirror new why → HasGivenUp old all why new
given_up_at old mirror bytes piece back rest all fault.NotOpen new same cut whole f = stopped_at old mirror bytes piece back rest all fault.NotOpen new same cut whole (λ notes e. e) f
given_up_at old mirror bytes piece back rest all fault.LongLine new same cut whole f = stopped_at old mirror bytes piece back rest all fault.LongLine new same cut whole (λ notes e. e) f
given_up_at old mirror bytes piece back rest all (fault.Line line) new same cut whole f = stopped_at old mirror bytes piece back rest all (fault.Line line) new same cut whole (λ notes e. e) f
given_up_at old mirror bytes piece back rest all fault.StageFull new same cut whole f = stopped_at old mirror bytes piece back rest all fault.StageFull new same cut whole (λ notes e. e) f
given_up_at old mirror bytes piece back rest all fault.Memory new same cut whole f = lost_at old mirror bytes piece back rest all new same cut whole f

-- a fault of the next piece, as it is told
pub given_up : {T : Type 0} (old mirror : MirrorState) (piece back rest all : List ℕ) (given why : FeedFault) (new : MirrorState) (result : Result T FeedFault)
    (come : HasCome old.limits (present_opening old) all rest mirror) → piece ++ back ≡ rest → Faulted (present_opening old) come.bytes piece mirror new given
    → result ≡ Err why → why ≡ given → IfErr result (λ f. HasGivenUp old all f new)
given_up old mirror piece back rest all given why new result come cut f is told =
    subst (λ r. IfErr r (λ f. HasGivenUp old all f new)) (sym is)
    (subst (λ w. HasGivenUp old all w new) (sym told) (given_up_at old mirror come.bytes piece back rest all given new come.limits_are cut come.whole f))
