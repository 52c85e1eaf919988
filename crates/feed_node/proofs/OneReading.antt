-- Where nothing is bad, the lines say one thing, and no fault stands.
use Rattle.std.proofs.Common.{◌≡◌, refl, sym, ap, ◌∙◌, subst, ℕ, arith, List, [], ◌∷◌, ◌++◌, append_assoc, append-nil, Some, None}
use Rattle.feed_settings.specs.Limits.{Limits}
use Rattle.feed_note.specs.declared.line.Line.{Line}
use Rattle.feed_note.specs.Lines.{lines}
use Rattle.feed_note.specs.Meaning.{OnlyOne}
use Rattle.feed_node.specs.declared.fault.FeedFault.{FeedFault}
use Rattle.feed_node.specs.Reading.{Opening, Reads, FaultsAt, at_line, at_rest, IsGood, IsBad, long, meaningless, refused, fault_after, AllGood, AllGoodAfter}
use Rattle.feed_node.specs.Steps.{ReadingIsOne}

module _ (only : OnlyOne) (limits : Limits) (opening : Opening) where
  one_meaning : (earlier : List Line) (xs : List (List ℕ)) (notes others : List Line)
      → AllGoodAfter limits opening earlier xs notes
      → AllGoodAfter limits opening earlier xs others → notes ≡ others
  one_meaning earlier [] [] [] h k = refl
  one_meaning earlier [] [] (m ∷ ms) h k = absurd k
  one_meaning earlier [] (n ∷ ns) others h k = absurd h
  one_meaning earlier (x ∷ xs) [] others h k = absurd h
  one_meaning earlier (x ∷ xs) (n ∷ ns) [] h k = absurd k
  one_meaning earlier (x ∷ xs) (n ∷ ns) (m ∷ ms) h k =
      let first : n ≡ m = only.meaning x n m h.0.means k.0.means in
      let good =
      subst (λ l. AllGoodAfter limits opening (earlier ++ l ∷ []) xs ms) (sym first) k.1 in
      let later = one_meaning (earlier ++ n ∷ []) xs ns ms h.1 good in
      λ i. first i ∷ later i

  not_both : (earlier : List Line) (x : List ℕ) (note : Line) (fault : FeedFault)
      → IsGood limits opening earlier x note → IsBad limits opening earlier x fault → ⊥
  not_both earlier x note _ g (long h) = let s = g.short in absurd (omega arith)
  not_both earlier x note _ g (meaningless s r) = only.either x note _ g.means r
  not_both earlier x note fault g (refused other s m f) =
      let same : note ≡ other = only.meaning x note other g.means m in
      let none : fault_after limits opening earlier other ≡ None =
      ap (fault_after limits opening earlier) (sym same) ∙ g.fits in
      let both : Some fault ≡ None = sym f ∙ none in
      absurd (cc)

  pub none_bad : (earlier : List Line) (xs : List (List ℕ)) (x : List ℕ) (later : List (List ℕ))
      (notes others : List Line) (fault : FeedFault)
      → AllGoodAfter limits opening earlier (xs ++ x ∷ later) notes
      → AllGoodAfter limits opening earlier xs others
      → IsBad limits opening (earlier ++ others) x fault → ⊥
  none_bad earlier [] x later [] others fault h k b = h
  none_bad earlier [] x later (n ∷ ns) [] fault h k b =
      let here = subst (λ e. IsBad limits opening e x fault) (append-nil earlier) b in
      not_both earlier x n fault h.0 here
  none_bad earlier [] x later (n ∷ ns) (m ∷ ms) fault h k b = k
  none_bad earlier (y ∷ ys) x later [] others fault h k b = h
  none_bad earlier (y ∷ ys) x later (n ∷ ns) [] fault h k b = k
  none_bad earlier (y ∷ ys) x later (n ∷ ns) (m ∷ ms) fault h k b =
      let first : n ≡ m = only.meaning y n m h.0.means k.0.means in
      let xs = ys ++ x ∷ later in
      none_bad (earlier ++ m ∷ []) ys x later ns ms fault
      (subst (λ l. AllGoodAfter limits opening (earlier ++ l ∷ []) xs ns) first h.1) k.1
      (subst (λ e. IsBad limits opening e x fault) (sym (append_assoc earlier (m ∷ []) ms)) b)

  no_fault : (bytes : List ℕ) (notes others : List Line) (fault : FeedFault)
      → Reads limits opening bytes notes → FaultsAt limits opening bytes others fault → ⊥
  no_fault bytes notes others _ r (at_line xs x later split good bad) =
      let all = subst (λ ls. AllGood limits opening ls notes) split r.good in
      none_bad [] xs x later notes others _ all good bad
  no_fault bytes notes others _ r (at_rest good over) =
      let s = r.short in
      absurd (omega arith)

pub reading_is_one : OnlyOne → ReadingIsOne
reading_is_one only =
    record {
      notes = λ limits opening bytes notes others r s.
          one_meaning only limits opening [] (lines bytes) notes others r.good s.good;
      faultless = λ limits opening bytes notes others fault r f.
          no_fault only limits opening bytes notes others fault r f;
    }
