use Rattle.std.proofs.Common.{Some, subst, sym, ap, ◌∙◌, arith}
use Rattle.feed_text.specs.Json.{kind_at}
use Rattle.feed_text.specs.Strings.{IsPlain}
use Rattle.feed_text.proofs.FourNames.{first_byte_is, plain_shorter, plain_item, slice_plain, slice_string}
use Rattle.feed_text.proofs.named.next_plain.Goals as goal

pub prefix-text-requires : goal.prefix-text-requires
prefix-text-requires c =
    let start = c.skip_white_space-start.result.now in
    let opened = first_byte_is 34 start c.in_ok-inside.inside.now (omega arith) c.in_ok-inside.ensures in
    let closed = first_byte_is 34 c.skip_unescaped.result.now c.in_ok-rest.rest.now (omega arith) c.in_ok-rest.ensures in
    plain_shorter start c.in_ok-inside.inside.now c.skip_unescaped.result.now c.in_ok-rest.rest.now opened c.skip_unescaped.ensures closed

pub returns-clause-item : goal.returns-clause-item
returns-clause-item c = λ levels.
    let start = c.skip_white_space-start.result.now in
    let opened = first_byte_is 34 start c.in_ok-inside.inside.now (omega arith) c.in_ok-inside.ensures in
    let closed = first_byte_is 34 c.skip_unescaped.result.now c.in_ok-rest.rest.now (omega arith) c.in_ok-rest.ensures in
    (λ j. Some ((c.prefix-text.ensures j, kind_at (c.prefix-text.ensures j)), c.skip_white_space.ensures j))
    ∙ plain_item levels c.args.text.now start c.in_ok-inside.inside.now c.skip_unescaped.result.now c.in_ok-rest.rest.now c.skip_white_space-start.ensures opened c.skip_unescaped.ensures closed

pub returns-clause-plain : goal.returns-clause-plain
returns-clause-plain c =
    let start = c.skip_white_space-start.result.now in
    let opened = first_byte_is 34 start c.in_ok-inside.inside.now (omega arith) c.in_ok-inside.ensures in
    let closed = first_byte_is 34 c.skip_unescaped.result.now c.in_ok-rest.rest.now (omega arith) c.in_ok-rest.ensures in
    record {
      string = ap kind_at c.prefix-text.ensures ∙ slice_string start c.in_ok-inside.inside.now c.skip_unescaped.result.now c.in_ok-rest.rest.now opened c.skip_unescaped.ensures closed;
      plain = subst IsPlain (sym c.prefix-text.ensures) (slice_plain start c.in_ok-inside.inside.now c.skip_unescaped.result.now c.in_ok-rest.rest.now opened c.skip_unescaped.ensures closed);
    }
