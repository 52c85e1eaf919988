use Rattle.std.proofs.Common.{rules, ◌≡◌, ◌⊎◌, refl, sym, subst, inl, inr, List, ℕ}
use Rattle.feed_arguments.specs.Listening.{IsV4, IsInBrackets, IsWritten}
use Rattle.feed_arguments.proofs.listening.address_written.Goals as goal

not_written : (written address : List ℕ) → ¬ (IsV4 written) → ¬ (IsInBrackets written address) → ¬ (IsWritten written address)
not_written written address none never (inl v4) = none (subst IsV4 (sym v4.0) v4.1)
not_written written address none never (inr v6) = never v6

pub returns-in_err-address-clause-none : goal.returns-in_err-address-clause-none
returns-in_err-address-clause-none c =
    λ _ address is. not_written c.args.written.now address (c.is_v4.ensures.no (search rules))
    (c.in_err-address.ensures.none refl address) is
