-- Lemmas on what the command `check` reads and prints.
use Rattle.std.proofs.Common.{◌≡◌, refl, sym, subst, ◌∙◌, true, false, true≢false, List, [], ℕ, ◌++◌, append_assoc, append-nil}
use Rattle.feed_note.specs.Counts.{Counted}
use Rattle.feed_note.specs.declared.counts.Counts.{Counts}
use Rattle.feed_commands.specs.Check.{counts_text, closed, IsReadable, TellsMore, TellsCounts}
use Rattle.feed_commands.specs.Findings.{AreFound, findings_text}
use Rattle.feed_commands.specs.declared.commands.findings.Findings.{Findings}
use Rattle.feed_arguments.specs.declared.request.CheckOptions.{CheckOptions}

-- twelve texts and one behind them, however they are joined
pub joined : (a b c d e f g h i j k l m : List ℕ)
    → a ++ ((b ++ (c ++ (d ++ (e ++ (f ++ (g ++ (h ++ (i ++ (j ++ (k ++ l)))))))))) ++ m) ≡ a ++ b ++ c ++ d ++ e ++ f ++ g ++ h ++ i ++ j ++ k ++ l ++ m
joined a b c d e f g h i j k l m = simp append_assoc

-- the counts alone are printed
pub tells_counts : (options : CheckOptions) (bytes text : List ℕ) (counts : Counts) → options.verbose ≡ false → Counted bytes counts
    → text ≡ counts_text counts → TellsCounts options bytes text
tells_counts options bytes text counts quiet counted is = record {
  counts = counts;
  counted = counted;
  closes = λ v. absurd (true≢false (sym v ∙ quiet));
  more = [];
  says = subst (λ v. TellsMore v bytes []) (sym quiet) refl;
  is = is ∙ sym (append-nil (counts_text counts));
}

-- what is found is printed, too
pub tells_findings : (options : CheckOptions) (bytes text : List ℕ) (counts : Counts) (findings : Findings) → options.verbose ≡ true
    → Counted bytes counts → (counts.notes ≡ 0 → IsReadable (closed bytes)) → AreFound bytes findings → text ≡ counts_text counts ++ findings_text findings → TellsCounts options bytes text
tells_findings options bytes text counts findings verbose counted closes found is = record {
  counts = counts;
  counted = counted;
  closes = λ v. closes;
  more = findings_text findings;
  says = subst (λ v. TellsMore v bytes (findings_text findings)) (sym verbose) (findings, found, refl);
  is = is;
}
