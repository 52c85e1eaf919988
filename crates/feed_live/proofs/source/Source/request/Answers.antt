use Rattle.std.proofs.Common.{◌∙◌, refl, sym, ap, ◌++◌, length, slice_get}
use Rattle.std.proofs.lemmas.Option.{slice_get_read}
use Rattle.std.specs.Option.{option_copied}
use Rattle.feed_wire.specs.RequestText.{request_text_as}
use Rattle.feed_live.proofs.source.Source.request.Goals as goal

pub returns-clause-asks : goal.returns-clause-asks
returns-clause-asks c =
    record {
      place = c.in-Some.place.now;
      is_place = ap (λ xs. slice_get xs c.args.self.now.upstream.place) (sym c.deref.ensures.value) ∙ ap (λ at. slice_get c.deref.result.now at) (sym c.place.ensures.place)
          ∙ slice_get_read c.deref.result.now (length c.deref.result.now) c.place.result c.in-Some.place.now refl c.in-Some.ensures.lookup.3.0 c.in-Some.ensures.lookup.1;
      since = option_copied c.token_for.result;
      may_ask = c.token_for.ensures.may_ask;
      text_is = c.in_ok-request_text_as.ensures.ok ∙ ap (λ i. i ++ request_text_as c.in-Some.place.now (option_copied c.token_for.result) c.args.self.now.identity) c.new-text.ensures.items;
    }

pub returns-clause-token : goal.returns-clause-token
returns-clause-token c =
    record {
      place = c.in-Some.place.now;
      is_place = ap (λ xs. slice_get xs c.args.self.now.upstream.place) (sym c.deref.ensures.value) ∙ ap (λ at. slice_get c.deref.result.now at) (sym c.place.ensures.place)
          ∙ slice_get_read c.deref.result.now (length c.deref.result.now) c.place.result c.in-Some.place.now refl c.in-Some.ensures.lookup.3.0 c.in-Some.ensures.lookup.1;
      text_is = c.in_ok-request_text_as.ensures.ok ∙ ap (λ i. i ++ request_text_as c.in-Some.place.now (option_copied c.token_for.result) c.args.self.now.identity) c.new-text.ensures.items
          ∙ ap (λ s. request_text_as c.in-Some.place.now s c.args.self.now.identity) c.token_for.ensures.token;
    }
