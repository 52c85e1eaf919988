use Rattle.std.specs.Prelude.{is_none}
use Rattle.std.proofs.Common.{refl, ◌∙◌, sym, subst, length}
use Rattle.feed_live.specs.Relaying.{MayShow, followed_by}
use Rattle.feed_live.specs.States.{states_of}
use Rattle.feed_live.proofs.RelayLemmas.{among_shown, shows_still, same_shows, same_followed, with_screens, with_same, with_unread, with_left, with_taken, with_refused, with_failed, to_show, failed_may_show, head_goes_on, body_goes_on, done_goes_on}
use Rattle.feed_live.proofs.TimesLemmas.{heeds_then, heeds_same, heeds_until}
use Rattle.feed_live.proofs.source.Source.take_line.Goals as goal

pub returns-in-Ok-Head-clause-goes_on : goal.returns-in-Ok-Head-clause-goes_on
returns-in-Ok-Head-clause-goes_on g c = (
  c.push.ensures.only.reach,
  c.push.ensures.only.rest,
  λ reads limits log servers contest sockets follows. (
    c.push.ensures.only.servers ∙ follows.0,
    with_taken limits log servers _ c.line_or_part.result.0.now c.line_or_part.result.1.now _ reads c.push.ensures.only (head_goes_on c.in-Ok-Head.field-0-is) c.in-Ok-Head.ensures.ok
        (with_unread limits log servers (is_none c.args.self.now.coming) _ _ _ _ _ c.line_or_part.ensures.whole follows.1),
  ),
)

pub returns-in-Ok-Head-clause-stops : goal.returns-in-Ok-Head-clause-stops
returns-in-Ok-Head-clause-stops g c =
    λ none. absurd (cc)

pub returns-in-Ok-Body-clause-goes_on : goal.returns-in-Ok-Body-clause-goes_on
returns-in-Ok-Body-clause-goes_on g c = (
  c.say.ensures.same.reach ∙ c.note_beginning.ensures.same.reach ∙ c.note_lines.ensures.same.reach ∙ c.found.ensures.same.reach ∙ c.push.ensures.only.reach,
  c.say.ensures.same.rest ∙ c.note_beginning.ensures.same.rest ∙ c.note_lines.ensures.same.rest ∙ c.found.ensures.same.rest ∙ c.push.ensures.only.rest,
  λ reads limits log servers contest sockets follows. (
    c.say.ensures.same.servers ∙ c.note_beginning.ensures.same.servers ∙ c.note_lines.ensures.same.servers ∙ c.found.ensures.same.servers ∙ c.push.ensures.only.servers ∙ follows.0,
    with_same limits log servers c.say.ensures.same _ c.line_or_part.result.1.now c.line_or_part.result.1.now refl
        (with_screens limits log servers _ (λ shows serving. c.say.ensures.serves (states_of limits log) contest sockets (among_shown limits log shows) serving)
        (with_same limits log servers c.note_beginning.ensures.same _ c.line_or_part.result.1.now c.line_or_part.result.1.now refl
        (with_same limits log servers c.note_lines.ensures.same _ c.line_or_part.result.1.now c.line_or_part.result.1.now refl
        (with_same limits log servers c.found.ensures.same _ c.line_or_part.result.1.now c.line_or_part.result.1.now refl
        (with_taken limits log servers _ c.line_or_part.result.0.now c.line_or_part.result.1.now _ reads c.push.ensures.only (body_goes_on c.in-Ok-Body.field-0-is) c.in-Ok-Body.ensures.ok
        (with_unread limits log servers (is_none c.args.self.now.coming) _ _ _ _ _ c.line_or_part.ensures.whole follows.1)))))),
  ),
)

pub returns-in-Ok-Body-clause-stops : goal.returns-in-Ok-Body-clause-stops
returns-in-Ok-Body-clause-stops g c =
    λ none. absurd (cc)

pub returns-in-Ok-Done-clause-stops : goal.returns-in-Ok-Done-clause-stops
returns-in-Ok-Done-clause-stops g c =
    λ none. (
      c.end.ensures.left.reach,
      λ reads left limits log servers contest sockets follows.
          let next = c.line_or_part.result.1.now in
          let said = with_same limits log servers c.say-in-Ok-Done.ensures.same _ next next refl
          (with_screens limits log servers _ (λ shows serving. c.say-in-Ok-Done.ensures.serves (states_of limits log) contest sockets (among_shown limits log shows) serving)
          (with_same limits log servers c.note_beginning-in-Ok-Done.ensures.same _ next next refl
          (with_same limits log servers c.found-in-Ok-Done.ensures.same _ next next refl
          (with_taken limits log servers _ c.line_or_part.result.0.now next _ reads c.push.ensures.only (done_goes_on c.in-Ok-Done.field-0-is) c.in-Ok-Done.ensures.ok
          (with_unread limits log servers (is_none c.args.self.now.coming) _ _ _ _ _ c.line_or_part.ensures.whole follows.1))))) in
          let settled = c.settle_ended.ensures.shows limits log servers contest sockets
          (to_show limits log servers c.say-in-Ok-Done.new.self c.say-in-Ok-Done.new.screens _ next (c.say-in-Ok-Done.ensures.same.reach ∙ c.note_beginning-in-Ok-Done.ensures.same.reach ∙ c.found-in-Ok-Done.ensures.same.reach ∙ c.push.ensures.only.reach ∙ reads)
          (c.say-in-Ok-Done.ensures.same.servers ∙ c.note_beginning-in-Ok-Done.ensures.same.servers ∙ c.found-in-Ok-Done.ensures.same.servers ∙ c.push.ensures.only.servers ∙ follows.0, said)) in (
            c.end.ensures.left.servers ∙ settled.0,
            with_left limits log servers c.end.ensures.left left settled.1,
          ),
    )

pub returns-in-Ok-TokenRefused-clause-stops : goal.returns-in-Ok-TokenRefused-clause-stops
returns-in-Ok-TokenRefused-clause-stops g c =
    λ none. (
      c.refused.ensures.left.reach,
      λ reads left limits log servers contest sockets follows. (
        c.refused.ensures.left.servers ∙ c.push.ensures.only.servers ∙ follows.0,
        with_left limits log servers c.refused.ensures.left left
            (with_refused limits log servers _ c.line_or_part.result.0.now c.line_or_part.result.1.now _ reads c.push.ensures.only c.in-Ok-TokenRefused.field-0-is c.in-Ok-TokenRefused.ensures.ok
            (with_unread limits log servers (is_none c.args.self.now.coming) _ _ _ _ _ c.line_or_part.ensures.whole follows.1)),
      ),
    )

pub returns-then-is_want_of_memory-clause-stops : goal.returns-then-is_want_of_memory-clause-stops
returns-then-is_want_of_memory-clause-stops g c =
    λ none. (
      c.lost.ensures.left.reach,
      λ reads left limits log servers contest sockets follows. (
        c.lost.ensures.left.servers ∙ c.push.ensures.only.servers ∙ follows.0,
        with_left limits log servers c.lost.ensures.left left
            (with_failed limits log servers _ c.line_or_part.result.0.now c.line_or_part.result.1.now _ reads c.push.ensures.only c.in-Err.ensures.err
            (with_unread limits log servers (is_none c.args.self.now.coming) _ _ _ _ _ c.line_or_part.ensures.whole follows.1)),
      ),
    )

pub returns-else-is_want_of_memory-clause-stops : goal.returns-else-is_want_of_memory-clause-stops
returns-else-is_want_of_memory-clause-stops g c =
    λ none. (
      c.lost-in-Err.ensures.left.reach,
      λ reads left limits log servers contest sockets follows.
          let next = c.line_or_part.result.1.now in
          let here = with_unread limits log servers (is_none c.args.self.now.coming) _ _ _ _ _ c.line_or_part.ensures.whole follows.1 in
          let may = failed_may_show limits log servers (is_none c.args.self.now.coming) c.args.self.now.reach c.args.self.now.request.items c.line_or_part.result.0.now next _ c.args.self.now.upstream.follower
          (followed_by c.args.self.now) (followed_by c.push.new.self) c.in-Err.fault (sym c.is_want_of_memory.ensures ∙ c.if-is_want_of_memory.false) reads c.push.ensures.only.limits c.in-Err.ensures.err here.1 in
          let ended = c.settle_ended-in-Err.ensures.shows limits log servers contest sockets (
            c.say-in-Err.ensures.same.servers ∙ c.push.ensures.only.servers ∙ follows.0,
            λ honest.
                let at = with_failed limits log servers _ c.line_or_part.result.0.now next c.in-Err.fault reads c.push.ensures.only c.in-Err.ensures.err here honest in
                same_shows limits log c.say-in-Err.ensures.same (shows_still limits log (c.say-in-Err.ensures.serves (states_of limits log) contest sockets (among_shown limits log at)) at),
            subst (λ m. MayShow limits log servers (length next) (g.L.Link.exchanges c.args.link.now) m) (sym (same_followed c.say-in-Err.ensures.same.coming c.say-in-Err.ensures.same.shown)) may,
          ) in (
            c.lost-in-Err.ensures.left.servers ∙ ended.0,
            with_left limits log servers c.lost-in-Err.ensures.left left ended.1,
          ),
    )

pub returns-in-Ok-Head-clause-heeds : goal.returns-in-Ok-Head-clause-heeds
returns-in-Ok-Head-clause-heeds g c = c.push.ensures.heeds

pub returns-in-Ok-Done-clause-heeds : goal.returns-in-Ok-Done-clause-heeds
returns-in-Ok-Done-clause-heeds g c = heeds_then c.end.ensures.heeds (heeds_then c.settle_ended.ensures.heeds (heeds_then c.say-in-Ok-Done.ensures.heeds (heeds_then (heeds_until c.note_beginning-in-Ok-Done.ensures.time (heeds_same _ c.note_beginning-in-Ok-Done.ensures.times)) (heeds_then c.found-in-Ok-Done.ensures.heeds c.push.ensures.heeds))))

pub returns-in-Ok-Done-clause-calls : goal.returns-in-Ok-Done-clause-calls
returns-in-Ok-Done-clause-calls g c = c.end.ensures.calls ∙ c.settle_ended.ensures.calls

pub returns-in-Ok-TokenRefused-clause-heeds : goal.returns-in-Ok-TokenRefused-clause-heeds
returns-in-Ok-TokenRefused-clause-heeds g c = heeds_then c.refused.ensures.heeds c.push.ensures.heeds

pub returns-then-is_want_of_memory-clause-heeds : goal.returns-then-is_want_of_memory-clause-heeds
returns-then-is_want_of_memory-clause-heeds g c = heeds_then c.lost.ensures.heeds c.push.ensures.heeds

pub returns-else-is_want_of_memory-clause-heeds : goal.returns-else-is_want_of_memory-clause-heeds
returns-else-is_want_of_memory-clause-heeds g c = heeds_then c.lost-in-Err.ensures.heeds (heeds_then c.settle_ended-in-Err.ensures.heeds (heeds_then c.say-in-Err.ensures.heeds (heeds_until c.report_fault.ensures c.push.ensures.heeds)))

pub returns-else-is_want_of_memory-clause-calls : goal.returns-else-is_want_of_memory-clause-calls
returns-else-is_want_of_memory-clause-calls g c = c.lost-in-Err.ensures.calls ∙ c.settle_ended-in-Err.ensures.calls
