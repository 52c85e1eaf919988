-- The connection that has begun, and the next.
use Rattle.std.proofs.Common.{◌≡◌, sym, ap, ◌∙◌, subst, ℕ, ◌+◌, min, Bool, true, List, [], ◌∷◌, ◌++◌, append-nil, length, length-append, arith, Option}
use Rattle.std.specs.List.{AllByRecursion}
use Rattle.feed_note.specs.Lines.{HasNoLineFeed, lines, ended}
use Rattle.feed_records.specs.Connections.{Cut, Recorded, part, OpensFeed, OpensNone, announced_by, last, opened, headless, marked, named, answered}
use Rattle.feed_records.specs.Parting.{body_of, body_lines, behind_body, OpensNext, EndsIn, nothing, in_head, since_of, most}
use Rattle.feed_records.specs.declared.connections.Opened.{Opened}
use Rattle.feed_records.proofs.Bodies.{SplitOf, alone, before_next, split_of, body_alone, body_before, ends_none, regroup, marked_opens, named_opens, answered_opens}
use Rattle.feed_records.proofs.Cutting.{each_cuts}
use Rattle.feed_records.proofs.EndedLines.{lines_of_ended}
use Rattle.feed_text.proofs.Lists.{all-append}

pub alone_feed : (before since token : Option (List ℕ)) (line : List ℕ) (feed : Bool) → feed ≡ true → since ≡ token → OpensFeed before (line ∷ []) true token → OpensFeed before (line ∷ []) feed since
alone_feed before since token line feed e is o = subst (λ f. OpensFeed before (line ∷ []) f since) (sym e) (subst (λ t. OpensFeed before (line ∷ []) true t) (sym is) o)

-- the text is one connection, asked for with this token, and those that stand behind it
pub record GoesOnWith (since : Option (List ℕ)) (text : List ℕ) (count : ℕ) (feed : Bool) (token : Option (List ℕ)) (behind : List ℕ) : Type 0 where
  pub size : ℕ
  pub counted : min count most ≡ min size most
  pub on : (before : ℕ) → (is_feed : Bool) → (parts : List Recorded) → Cut (before + size) feed token behind parts
      → Cut before is_feed since text (part before is_feed since (body_of text) ∷ parts)

-- the text is one connection
abbrev pub EndsWith : List ℕ → Type 0
EndsWith text = (before : ℕ) → (is_feed : Bool) → (since : Option (List ℕ)) → Cut before is_feed since text (part before is_feed since (body_of text) ∷ [])

by_body : {before : ℕ} {is_feed : Bool} {since : Option (List ℕ)} (text body : List ℕ) (parts : List Recorded) → body_of text ≡ body
    → Cut before is_feed since text (part before is_feed since body ∷ parts) → Cut before is_feed since text (part before is_feed since (body_of text) ∷ parts)
by_body {before} {is_feed} {since} text body parts e c = subst (λ b. Cut before is_feed since text (part before is_feed since b ∷ parts)) (sym e) c

no_head : (head : List (List ℕ)) (feed : Bool) (before token : Option (List ℕ)) (behind : List ℕ) → OpensFeed before head feed token → [] ≡ ended head ++ behind → ⊥
no_head head feed before token behind (marked line e) is = ends_none line [] behind is
no_head head feed before token behind (named line t e h) is = ends_none line [] behind is
no_head head feed before token behind (answered line fields blank status e n h filled ends) is = ends_none line (fields ++ blank ∷ []) behind is

pub goes_on : (text behind : List ℕ) (end : ℕ × List ℕ) (old new : Opened) (count : ℕ) → (min (0 + body_lines text) most, behind_body text) ≡ end → OpensNext end old new count behind
    → GoesOnWith (since_of old) text count new.is_feed (since_of new) behind
goes_on text behind end old new count is g = by (split_of text)
  where
    lines_are : min (0 + body_lines text) most ≡ end.0
    lines_are = ap (λ (e : ℕ × List ℕ). e.0) is

    next_is : behind_body text ≡ ended g.head ++ behind
    next_is = ap (λ (e : ℕ × List ℕ). e.1) is ∙ g.text_is

    opens_here : (body : List (List ℕ)) → end.0 ≡ min (length body) most → OpensFeed (announced_by (since_of old) body) g.head new.is_feed (since_of new)
    opens_here = g.opens

    by : SplitOf text → GoesOnWith (since_of old) text count new.is_feed (since_of new) behind
    by (alone none body_is bare count_is) =
        absurd (no_head g.head new.is_feed _ (since_of new) behind (opens_here (lines text) (let l = lines_are in omega (arith, l, count_is))) (sym bare ∙ next_is))
    by (before_next seen none whole body_is count_is text_is) = record {
      size = length (seen ++ g.head);
      counted = let l = length-append seen g.head in let c = g.counted in let k = lines_are in omega (arith, l, c, k, count_is);
      on = λ before is_feed parts c.
          by_body text (ended seen) parts body_is
          (opened seen g.head new.is_feed (since_of new) behind parts (text_is ∙ ap (λ t. ended seen ++ t) next_is) (all-append HasNoLineFeed seen g.head whole g.whole) none
          (opens_here seen (let l = lines_are in omega (arith, l, count_is))) c);
    }

pub ends_with : (text : List ℕ) (end : ℕ × List ℕ) → behind_body text ≡ end.1 → EndsIn end.1 → EndsWith text
ends_with text end is h = by (split_of text) end.1 is h
  where
    by : SplitOf text → (next : List ℕ) → behind_body text ≡ next → EndsIn next → EndsWith text
    by (alone none body_is bare count_is) next e h before is_feed since = by_body text text [] body_is (last none)
    by (before_next seen none whole body_is count_is text_is) next e nothing before is_feed since =
        by_body text (ended seen) [] body_is (subst (λ t. Cut before is_feed since t (part before is_feed since (ended seen) ∷ [])) (sym (text_is ∙ ap (λ t. ended seen ++ t) e ∙ append-nil (ended seen)))
        (last (subst (AllByRecursion OpensNone) (sym (lines_of_ended seen whole)) none)))
    by (before_next seen none whole body_is count_is text_is) next e (in_head line status behind unbroken unmarked unnamed has h) before is_feed since =
        by_body text (ended seen) [] body_is
        (headless seen h.fields line status h.end
        (text_is ∙ ap (λ t. ended seen ++ t) (e ∙ (ap (λ t. line ++ 10 ∷ t) h.text_is ∙ regroup line h.fields h.end)))
        (all-append HasNoLineFeed seen (line ∷ h.fields) whole (unbroken, h.whole)) h.part none unmarked unnamed has h.filled)

-- a text is cut somehow
pub cut_somehow : (before : ℕ) (is_feed : Bool) (since : Option (List ℕ)) (text : List ℕ) → (later : List Recorded) × Cut before is_feed since text (part before is_feed since (body_of text) ∷ later)
cut_somehow before is_feed since text = let c = each_cuts before is_feed since text in first_of text c.0 c.1
  where
    opens_by : (head : List (List ℕ)) (feed : Bool) (announced token : Option (List ℕ)) (body : List (List ℕ)) (behind : List ℕ) → OpensFeed announced head feed token
        → AllByRecursion HasNoLineFeed (body ++ head) → AllByRecursion OpensNone body → body_of (ended body ++ (ended head ++ behind)) ≡ ended body
    opens_by head feed announced token body behind (marked line e) whole none = body_before body line [] behind whole none (marked_opens line e)
    opens_by head feed announced token body behind (named line t e h) whole none = body_before body line [] behind whole none (named_opens line t h)
    opens_by head feed announced token body behind (answered line fields blank status e n h filled ends) whole none =
        body_before body line (fields ++ blank ∷ []) behind whole none (answered_opens line status h)

    first_of : {before : ℕ} {is_feed : Bool} {since : Option (List ℕ)} (text : List ℕ) (parts : List Recorded) → Cut before is_feed since text parts
        → (later : List Recorded) × Cut before is_feed since text (part before is_feed since (body_of text) ∷ later)
    first_of text parts (last none) = ([], by_body text text [] (body_alone text none) (last none))
    first_of text parts (opened body head next token behind later is whole none opens c) =
        (later, by_body text (ended body) later (ap body_of is ∙ opens_by head next _ token body behind opens whole none) (opened body head next token behind later is whole none opens c))
    first_of text parts (headless body fields line status rest is whole part none unmarked unnamed has filled) = (
      [],
      by_body text (ended body) [] (ap body_of is ∙ body_before body line fields rest whole none (answered_opens line status has))
          (headless body fields line status rest is whole part none unmarked unnamed has filled),
    )
