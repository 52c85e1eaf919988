use Rattle.std.proofs.Common.{◌≡◌, ◌∙◌, sym, ap, length, take, drop, rules, inr}
use Rattle.std.specs.Prelude.{unwrap_or}
use Rattle.std.proofs.lemmas.Result.{err_from_is_err_and}
use Rattle.httparse.specs.Grammar.{status_code}
use Rattle.feed_wire.specs.HeadSizes.{IsHeadSize}
use Rattle.feed_wire.proofs.ResponseLemmas.{other_size, sized_to, sized_from, len_fits}
use Rattle.feed_follow.proofs.HeadLemmas.{verdict_is}
use Rattle.feed_follow.proofs.heads.parsed.Goals as goal

pub unfinished-requires : goal.unfinished-requires
unfinished-requires c =
    let bytes = c.args.bytes.now in
    let len = c.args.len in
    let (h, holds) = c.requires in
    let other : ¬ (IsHeadSize (take len bytes) (length c.args.head.now.headers.now)) =
    c.if-not-is_head_size.ensures.other (search rules) in
    other_size bytes h (drop len bytes) holds.reads
    (λ size. other (sized_from bytes c.args.head.now.headers.now h len holds.reads holds.len_is
    holds.fields size))

pub returns-in_err-says-clause-err :
    goal.returns-in_err-says-clause-err
returns-in_err-says-clause-err c =
    let p = err_from_is_err_and c.from_residual.result c.from_residual.ensures.1 in
    let bytes = c.args.bytes.now in
    let len = c.args.len in
    let (h, holds) = c.requires in
    let fits : IsHeadSize (take len bytes) (length c.args.head.now.headers.now) =
    c.if-not-is_head_size.ensures.size (search rules) in
    let code : c.unwrap_or.result ≡ status_code h = c.unwrap_or.ensures
    ∙ ap (λ o. unwrap_or o 0) holds.code in
    rw (p.1, p.2) (record {
      of_head = c.in_err-says.ensures.faults;
      stands = inr (
        h,
        drop len bytes,
        record {
          reads = holds.reads;
          size = sized_to bytes c.args.head.now.headers.now h len
              holds.reads holds.len_is holds.fields fits;
        },
        sym (verdict_is c.args.had_token c.unwrap_or.result c.args.head.now.headers.now h code
            holds.fields) ∙ sym c.in_err-says.ensures.says,
      );
    })

pub returns-clause-whole :
    goal.returns-clause-whole
returns-clause-whole c =
    let bytes = c.args.bytes.now in
    let len = c.args.len in
    let (h, holds) = c.requires in
    let fits : IsHeadSize (take len bytes) (length c.args.head.now.headers.now) =
    c.if-not-is_head_size.ensures.size (search rules) in
    let code : c.unwrap_or.result ≡ status_code h = c.unwrap_or.ensures
    ∙ ap (λ o. unwrap_or o 0) holds.code in
    record {
      head = h;
      fits = len_fits bytes h len holds.reads holds.len_is;
      begins = record {
        reads = holds.reads;
        size = sized_to bytes c.args.head.now.headers.now h
            len holds.reads holds.len_is holds.fields fits;
      };
      says = sym (verdict_is c.args.had_token c.unwrap_or.result c.args.head.now.headers.now h code
          holds.fields) ∙ sym c.in_ok-says.ensures.says;
    }
