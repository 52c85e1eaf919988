use Rattle.std.proofs.Common.{◌≡◌, ◌≢◌, ◌<◌, ◌≤◌, ◌++◌, List, ℕ, length, drop, Some, None, arith, sym, ap, subst, ◌∙◌}
use Rattle.feed_text.specs.Reading.{first}
use Rattle.feed_text.specs.Escapes.{escaped_at}
use Rattle.feed_text.proofs.Escaping.{SoFar, so_far_run, found_text, found_rest, found_stop, found_fault, so_far_escape, escape_shortens}
use Rattle.feed_text.proofs.Bounds.{while_shorter}
use Rattle.std.specs.Char.{encode_utf8}
use Rattle.feed_text.specs.Escapes.{ClosesBefore}
use Rattle.feed_text.proofs.escapes.unescape.Goals as goal

pub prefix-requires : goal.prefix-requires
prefix-requires c = grind (arith, while_shorter)

pub returns-in-Some-clause-text : goal.returns-in-Some-clause-text
returns-in-Some-clause-text c =
    let inside = c.args.inside.now in
    let l = c.loop-text in
    let stop = c.skip_unescaped-stop.result.now in
    let run = c.prefix.result.now in
    let s = so_far_run inside l.text.items l.rest.now stop run l.invariant c.skip_unescaped-stop.ensures c.prefix.ensures in
    let written : c.extend_from_slice.new.self.items ≡ l.text.items ++ run = grind arith in
    let here : first stop ≡ 34 = grind arith in
    ap Some written ∙ sym (found_text inside (l.text.items ++ run) stop s here)

pub returns-in-Some-clause-rest : goal.returns-in-Some-clause-rest
returns-in-Some-clause-rest c =
    let inside = c.args.inside.now in
    let l = c.loop-text in
    let stop = c.skip_unescaped-stop.result.now in
    let run = c.prefix.result.now in
    let s = so_far_run inside l.text.items l.rest.now stop run l.invariant c.skip_unescaped-stop.ensures c.prefix.ensures in
    let here : first stop ≡ 34 = grind arith in
    let behind : c.in-Some.behind.now ≡ drop 1 stop = grind arith in
    subst (ClosesBefore inside) (sym behind) (found_rest inside (l.text.items ++ run) stop s here)

pub returns-in_default-after_byte-clause-text : goal.returns-in_default-after_byte-clause-text
returns-in_default-after_byte-clause-text c =
    let inside = c.args.inside.now in
    let l = c.loop-text in
    let stop = c.skip_unescaped-stop.result.now in
    let run = c.prefix.result.now in
    let s = so_far_run inside l.text.items l.rest.now stop run l.invariant c.skip_unescaped-stop.ensures c.prefix.ensures in
    let mark : first stop ≢ 34 = grind arith in
    let slash : first stop ≢ 92 = grind arith in
    sym (found_stop inside (l.text.items ++ run) l.rest.now stop s c.skip_unescaped-stop.ensures mark slash)

pub returns-in_default-escaped-clause-text : goal.returns-in_default-escaped-clause-text
returns-in_default-escaped-clause-text c =
    let inside = c.args.inside.now in
    let l = c.loop-text in
    let stop = c.skip_unescaped-stop.result.now in
    let run = c.prefix.result.now in
    let s = so_far_run inside l.text.items l.rest.now stop run l.invariant c.skip_unescaped-stop.ensures c.prefix.ensures in
    let slash : first stop ≡ 92 = grind arith in
    let behind : c.in-Some-after_byte.escape.now ≡ drop 1 stop = grind arith in
    let none : escaped_at c.in-Some-after_byte.escape.now ≡ None = grind arith in
    sym (found_fault inside (l.text.items ++ run) stop s slash (ap escaped_at (sym behind) ∙ none))

pub loop-text-smaller : goal.loop-text-smaller
loop-text-smaller c =
    let l = c.loop-text in
    let stop = c.skip_unescaped-stop.result.now in
    let rest = c.in-Some-escaped.behind.now in
    let character = c.in-Some-escaped.character in
    let behind : c.in-Some-after_byte.escape.now ≡ drop 1 stop = grind arith in
    let read : escaped_at c.in-Some-after_byte.escape.now ≡ Some (character, rest) = grind arith in
    let shorter : length rest < length stop = escape_shortens stop rest character (ap escaped_at (sym behind) ∙ read) in
    let long : length stop ≤ length l.rest.now = grind (arith, while_shorter) in
    omega (arith, shorter, long)

pub loop-text-preserved : goal.loop-text-preserved
loop-text-preserved c =
    let inside = c.args.inside.now in
    let l = c.loop-text in
    let stop = c.skip_unescaped-stop.result.now in
    let run = c.prefix.result.now in
    let rest = c.in-Some-escaped.behind.now in
    let character = c.in-Some-escaped.character in
    let s = so_far_run inside l.text.items l.rest.now stop run l.invariant c.skip_unescaped-stop.ensures c.prefix.ensures in
    let written : c.extend_from_slice.new.self.items ≡ l.text.items ++ run = grind arith in
    let appended : c.append_character.new.text.items ≡ c.extend_from_slice.new.self.items ++ encode_utf8 character = grind arith in
    let slash : first stop ≡ 92 = grind arith in
    let behind : c.in-Some-after_byte.escape.now ≡ drop 1 stop = grind arith in
    let read : escaped_at c.in-Some-after_byte.escape.now ≡ Some (character, rest) = grind arith in
    let all = so_far_escape inside (l.text.items ++ run) stop rest character s slash (ap escaped_at (sym behind) ∙ read) in
    subst (λ (t : List ℕ). SoFar inside t rest) (sym (appended ∙ ap (λ (t : List ℕ). t ++ encode_utf8 character) written)) all
