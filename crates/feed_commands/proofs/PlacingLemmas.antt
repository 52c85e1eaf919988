-- Lemmas on a fault that is told with its place in a line.
use Rattle.std.proofs.Common.{◌≡◌, inl, inr, sym, subst, ◌∙◌, List, ℕ, Bool, Option}
use Rattle.feed_commands.specs.Check.{SurveyFails, ReadingFails, IsWhole, CountFails}
use Rattle.feed_commands.specs.Fault.{SaysMore}
use Rattle.feed_commands.specs.Streamed.{StreamFails, ClosingFails}
use Rattle.feed_commands.specs.declared.fault.Fault.{Fault}
use Rattle.feed_commands.specs.declared.fault.Fault.TheVariants as fault

-- what is said of the fault is said of it with its place
pub more_fails : (line : List ℕ) (why told : Fault) (a b : Option (List ℕ)) → SaysMore line why told → StreamFails why a b → StreamFails told a b
more_fails line why told a b (inl e) h = subst (λ w. StreamFails w a b) (sym e) h
more_fails line why told a b (inr (stop, spot, e, is, _)) h = subst (λ w. StreamFails w a b) (sym is) (subst (λ w. StreamFails w a b) e h)

pub more_closing : (line : List ℕ) (why told : Fault) (a b : Option (List ℕ)) → SaysMore line why told → ClosingFails why a b → ClosingFails told a b
more_closing line why told a b (inl e) h = subst (λ w. ClosingFails w a b) (sym e) h
more_closing line why told a b (inr (stop, spot, e, is, _)) h = subst (λ w. ClosingFails w a b) (sym is) (subst (λ w. ClosingFails w a b) e h)

-- it is a failed read where the fault is one
pub more_read : (line : List ℕ) (why told : Fault) → SaysMore line why told → told ≡ fault.Read → why ≡ fault.Read
more_read line why told (inl e) r = sym e ∙ r
more_read line why told (inr (stop, spot, e, is, _)) r = absurd (cc)

pub more_kept : (line : List ℕ) (why told : Fault) → SaysMore line why told → why ≡ fault.Read → told ≡ fault.Read
more_kept line why told (inl e) r = e ∙ r
more_kept line why told (inr (stop, spot, e, is, _)) r = absurd (cc)

pub survey_counts : (verbose : Bool) (why : Fault) (old new : Option (List ℕ)) (bytes : List ℕ) → IsWhole old new bytes → ReadingFails verbose why bytes → CountFails verbose why old new
survey_counts verbose (fault.Survey why) old new bytes whole h =
    record { bytes = bytes; whole = whole; text = h.0; read_as = h.1; stops = h.2.0; placed = h.2.1 }
survey_counts verbose fault.Memory old new bytes whole h = tt
survey_counts verbose why old new bytes whole h = absurd h.2

pub survey_reads : (why : Fault) (bytes : List ℕ) → SurveyFails why bytes → why ≡ fault.Read → ⊥
survey_reads why bytes h e = subst (λ w. SurveyFails w bytes) e h
