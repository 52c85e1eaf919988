-- The lines of a text that comes in pieces.
use Rattle.std.proofs.Common.{◌≡◌, refl, sym, ap, ◌∙◌, subst, ℕ, ◌+◌, ◌<◌, ◌≤◌, List, [], ◌∷◌, ◌++◌, length, take, take_all, drop, get_or, append_assoc, append-nil, arith}
use Rattle.std.specs.List.{AllByRecursion}
use Rattle.std.specs.Prelude.{Vec}
use Rattle.std.specs.declared.alloc.Global.{Global}
use Rattle.std.proofs.lemmas.List.{map-append, take-append-drop, take_more}
use Rattle.std.proofs.lemmas.Grind.{flat_map-append}
use Rattle.feed_note.specs.Lines.{HasNoLineFeed, IsCutInto, lines, rest, ended}
use Rattle.feed_note.specs.Pieces.{IsShort, HasShortLines, HasLongLine, IsCutOff, TakesLines, joined, texts_of}
use Rattle.feed_note.specs.Splitting.{Gives, IsLongNext}
use Rattle.feed_note.proofs.LinesCut.{lines_cut, lines_are_the_only_cut, no_lines, no_rest}
use Rattle.feed_note.proofs.LinesInRow.{ended-append}
use Rattle.feed_note.proofs.LongLines.{long_next_stays}
use Rattle.feed_text.proofs.Lists.{all-append}

pub starts : (text : List ℕ) → IsCutOff text [] text
starts text = record { whole = tt; short = tt; is = refl }

-- lines that are cut off what is left are cut off the text
pub cut_on : (text left behind : List ℕ) (prefix taken : List (List ℕ)) → IsCutOff text prefix left → IsCutOff left taken behind → IsCutOff text (prefix ++ taken) behind
cut_on text left behind prefix taken h k = record {
  whole = all-append HasNoLineFeed prefix taken h.whole k.whole;
  short = all-append IsShort prefix taken h.short k.short;
  is = h.is ∙ ap (λ t. ended prefix ++ t) k.is ∙ sym (append_assoc (ended prefix) (ended taken) behind) ∙ ap (λ t. t ++ behind) (sym (ended-append prefix taken));
}

-- a line that a splitter gives is cut off
pub given : (old line new : List ℕ) → Gives old line new → IsCutOff old (line ∷ []) new
given old line new g = record {
  whole = (g.whole, tt);
  short = (g.short, tt);
  is = g.first ∙ sym (ap (λ t. t ++ new) (append-nil (line ++ 10 ∷ [])) ∙ append_assoc line (10 ∷ []) new);
}

-- more bytes behind the text stand behind what is left
pub pushed : (text left piece : List ℕ) (prefix : List (List ℕ)) → IsCutOff text prefix left → IsCutOff (text ++ piece) prefix (left ++ piece)
pushed text left piece prefix h = record { whole = h.whole; short = h.short; is = ap (λ t. t ++ piece) h.is ∙ append_assoc (ended prefix) left piece }

-- a line too long behind those that were cut off is one of the text, whatever follows
pub long_behind : (text left more : List ℕ) (prefix : List (List ℕ)) → IsCutOff text prefix left → HasLongLine left → HasLongLine (text ++ more)
long_behind text left more prefix h long = record {
  prefix = prefix ++ long.prefix;
  behind = long.behind ++ more;
  whole = all-append HasNoLineFeed prefix long.prefix h.whole long.whole;
  is = ap (λ t. t ++ more) (h.is ∙ ap (λ t. ended prefix ++ t) long.is ∙ sym (append_assoc (ended prefix) (ended long.prefix) long.behind) ∙ ap (λ t. t ++ long.behind) (sym (ended-append prefix long.prefix)))
      ∙ append_assoc (ended (prefix ++ long.prefix)) long.behind more;
  long = long_next_stays long.behind more long.long;
}

pub long_next : (old left : List ℕ) (prefix : List (List ℕ)) → IsCutOff old prefix left → IsLongNext left → HasLongLine old
long_next old left prefix h long = record { prefix = prefix; behind = left; whole = h.whole; is = h.is; long = long }

-- where no line is left, those that were cut off are the lines
unbroken : (left : List ℕ) → lines left ≡ [] → HasNoLineFeed left
unbroken left none =
    let cut = lines_cut left in
    subst HasNoLineFeed (sym (cut.text ∙ ap (λ ls. ended ls ++ rest left) none)) cut.part

pub cut_into : (text left : List ℕ) (prefix : List (List ℕ)) → IsCutOff text prefix left → lines left ≡ [] → IsCutInto text prefix left
cut_into text left prefix h none = record { whole = h.whole; part = unbroken left none; text = h.is }

pub all_lines : (text left : List ℕ) (prefix : List (List ℕ)) → IsCutOff text prefix left → lines left ≡ [] → prefix ≡ lines text
all_lines text left prefix h none = (lines_are_the_only_cut text prefix left (cut_into text left prefix h none)).0

pub short_lines : (text left : List ℕ) (prefix : List (List ℕ)) → IsCutOff text prefix left → lines left ≡ [] → IsShort (rest left) → HasShortLines text
short_lines text left prefix h none short =
    let same = lines_are_the_only_cut text prefix left (cut_into text left prefix h none) in
    record {
      each = subst (AllByRecursion IsShort) same.0 h.short;
      unfinished = subst IsShort same.1 (subst IsShort (sym (rest_is left none)) short);
    }
  where
    rest_is : (left : List ℕ) → lines left ≡ [] → left ≡ rest left
    rest_is left none = (lines_cut left).text ∙ ap (λ ls. ended ls ++ rest left) none

-- ---- the lines as they are kept

pub texts_push : (all : List (Vec ℕ Global)) (line : Vec ℕ Global) → texts_of (all ++ line ∷ []) ≡ texts_of all ++ line.items ∷ []
texts_push all line = map-append (λ l. l.items) all (line ∷ [])

pub taken_more : (old left new : List ℕ) (prefix : List (List ℕ)) (line : List ℕ) → IsCutOff old prefix left → Gives left line new → IsCutOff old (prefix ++ line ∷ []) new
taken_more old left new prefix line h g = cut_on old left new prefix (line ∷ []) h (given left line new g)

-- ---- the pieces so far

pub begins : (given : List (Vec ℕ Global)) (left : List ℕ) → given ≡ [] → left ≡ [] → IsCutOff [] (texts_of given) left
begins given left e f = subst (λ g. IsCutOff [] (texts_of g) left) (sym e) (subst (λ l. IsCutOff [] [] l) (sym f) (starts []))

pub begins_none : (left : List ℕ) → left ≡ [] → lines left ≡ []
begins_none left f = ap lines f ∙ no_lines [] refl

pub begins_short : (left : List ℕ) → left ≡ [] → IsShort (rest left)
begins_short left f = subst IsShort (sym (ap rest f ∙ no_rest [] refl)) short
  where
    short : IsShort []
    short = omega arith

-- one piece more
joined_more : (pieces : List (Vec ℕ Global)) (i : ℕ) (piece : Vec ℕ Global) → i < length pieces → piece ≡ get_or pieces i piece
    → joined (take (i + 1) pieces) ≡ joined (take i pieces) ++ piece.items
joined_more pieces i piece h e =
    ap joined (take_more pieces i piece h ∙ ap (λ p. take i pieces ++ p ∷ []) (sym e))
    ∙ flat_map-append (λ p. p.items) (take i pieces) (piece ∷ [])
    ∙ ap (λ t. joined (take i pieces) ++ t) (append-nil piece.items)

pub one_piece_more : (pieces : List (Vec ℕ Global)) (i : ℕ) (piece : Vec ℕ Global) (before given : List (List ℕ)) (left pushed_left new : List ℕ) → i < length pieces
    → piece ≡ get_or pieces i piece → IsCutOff (joined (take i pieces)) before left → pushed_left ≡ left ++ piece.items
    → TakesLines pushed_left before given new → IsCutOff (joined (take (i + 1) pieces)) given new
one_piece_more pieces i piece before given left pushed_left new h e cut is takes =
    subst (λ t. IsCutOff t given new) (sym (joined_more pieces i piece h e))
    (subst (λ ls. IsCutOff (joined (take i pieces) ++ piece.items) ls new) (sym takes.gained)
    (cut_on (joined (take i pieces) ++ piece.items) (left ++ piece.items) new before takes.taken
    (pushed (joined (take i pieces)) left piece.items before cut) (subst (λ t. IsCutOff t takes.taken new) is takes.cut)))

pub pieces_split : (pieces : List (Vec ℕ Global)) (i : ℕ) (piece : Vec ℕ Global) → i < length pieces → piece ≡ get_or pieces i piece
    → joined pieces ≡ (joined (take i pieces) ++ piece.items) ++ joined (drop (i + 1) pieces)
pieces_split pieces i piece h e =
    ap joined (sym (take-append-drop (i + 1) pieces))
    ∙ flat_map-append (λ p. p.items) (take (i + 1) pieces) (drop (i + 1) pieces)
    ∙ ap (λ t. t ++ joined (drop (i + 1) pieces)) (joined_more pieces i piece h e)

-- what is too long after one piece more is so in the whole text
pub long_in_pieces : (pieces : List (Vec ℕ Global)) (i : ℕ) (piece : Vec ℕ Global) (given : List (List ℕ)) (left new : List ℕ) → i < length pieces
    → piece ≡ get_or pieces i piece → IsCutOff (joined (take i pieces)) given left → new ≡ left ++ piece.items → HasLongLine new → HasLongLine (joined pieces)
long_in_pieces pieces i piece given left new h e cut is long =
    subst HasLongLine (sym (pieces_split pieces i piece h e))
    (long_behind (joined (take i pieces) ++ piece.items) (left ++ piece.items) (joined (drop (i + 1) pieces)) given
    (pushed (joined (take i pieces)) left piece.items given cut) (subst HasLongLine is long))

-- all pieces
pub all_pieces : (pieces : List (Vec ℕ Global)) (i : ℕ) (given : List (List ℕ)) (left : List ℕ) → length pieces ≤ i → IsCutOff (joined (take i pieces)) given left
    → IsCutOff (joined pieces) given left
all_pieces pieces i given left h cut = subst (λ t. IsCutOff (joined t) given left) (take_all i pieces h) cut
