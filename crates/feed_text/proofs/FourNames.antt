-- The members of a line under four names: keys, strings without a backslash, and what is found with
-- one member more.
use Rattle.std.proofs.Common.{◌≡◌, ◌≢◌, ℕ, Bool, true, false, cond, List, [], ◌∷◌, ◌++◌, length, take, drop, Option, Some, None, refl, sym, ap, subst, ◌∙◌, ◌-◌, ◌<◌, ◌≤◌, arith, eqb-true, eq-eqb, append_assoc}
use Rattle.std.proofs.lemmas.List.{take-append-drop, reverse-append}
use Rattle.std.proofs.lemmas.Option.{cond_some}
use Rattle.std.proofs.lemmas.Bool.{and_parts as both_true}
use Rattle.std.specs.Prelude.{nat_eq, codes, option_map, map, find, ◌==◌, IsTrue}
use Rattle.std.specs.Str.{bytes_eq}
use Rattle.std.specs.List.{list_all}
use Rattle.std.specs.Option.{option_eq}
use Rattle.std.specs.Cmp.Lexicographic.{pointwise}
use Rattle.feed_text.specs.Ascii.{quotation_mark, colon, comma, left_brace, right_brace}
use Rattle.feed_text.specs.Json.{in_quotes, is_white_space, kind_at}
use Rattle.feed_text.specs.declared.Kind.TheVariants.{Str}
use Rattle.feed_text.specs.declared.named.Key.{Key}
use Rattle.feed_text.specs.declared.named.Key.TheVariants as key
use Rattle.feed_text.specs.declared.named.NamedMembers.{NamedMembers}
use Rattle.feed_text.specs.declared.value.Item as items
use Rattle.feed_text.specs.Members.{Spelling, MemberSpelling, item_view, last_spelt, last_value_spelt, AreLastValues, AreSpeltValues, IsSpeltValue, IsSpelling, ArePlain, AreMemberSpellings, IsMemberSpelling}
use Rattle.feed_text.specs.FourNames.{IsNamed, IsKeyAt, IsPlainFor, with_value, PlainIfSaid, TakesMember, TakesAll, LineTakes}
use Rattle.feed_text.specs.Reading.{Contents, Pair, is_unescaped, first, prefix_while, rest_while, rest_of, behind, behind_first, string_at, characters_at, value_at, item_at, pair_at, contents_at, line_at, item_and_rest, pair_and_rest, pair_view, parts_of, parts_until, members_and_rest}
use Rattle.feed_text.specs.Strings.{IsPlain, Says, says}
use Rattle.feed_text.proofs.Bounds.{while_shorter}
use Rattle.feed_text.proofs.Collecting.{pairs_and_rest, onto, collect_some, collect_close, start_some, start_empty}
use Rattle.feed_text.proofs.Found.{found_member_spelt}
use Rattle.feed_text.proofs.Loops.{item_found, member_found, members_shorter, prefix_is}
use Rattle.feed_text.proofs.Parts.{with_first}
use Rattle.feed_text.proofs.Plain.{plain_tail, quotes_says}
use Rattle.feed_text.proofs.PrefixReaders.{while_parts, while_passes, while_rest, map_some}
use Rattle.feed_text.proofs.Rests.{string_rest, value_string}
use Rattle.feed_text.proofs.Scalars.{same_bytes}
use Rattle.feed_text.proofs.Strings.{run_reads, at_quote}
use Rattle.feed_text.proofs.TreeScalars.{all_bytes, bytes_all}

-- a text that begins with another
pub begins : (start text rest : List ℕ) → pointwise nat_eq (take (length start) text) start ≡ true → rest ≡ drop (length start) text → text ≡ start ++ rest
begins start text rest same behind =
    sym (take-append-drop (length start) text) ∙ (λ j. same_bytes (take (length start) text) start same j ++ sym behind j)

-- a text that begins with a byte
pub first_byte_is : (byte : ℕ) (text rest : List ℕ) → 0 < byte → Some rest ≡ behind_first byte text → text ≡ byte ∷ rest
first_byte_is byte text rest positive e =
    let h = cond_some (first text == byte) (drop 1 text) rest (sym e) in
    with_first byte text positive (eqb-true (first text) byte h.0) ∙ ap (λ (t : List ℕ). byte ∷ t) h.1

-- a string whose bytes stand for themselves up to the mark
string_read : (inside rest : List ℕ) → rest_while is_unescaped inside ≡ quotation_mark ∷ rest → rest_of (string_at (quotation_mark ∷ inside)) ≡ Some rest
string_read inside rest e =
    string_rest (quotation_mark ∷ inside) refl ∙ sym (run_reads inside) ∙ ap (λ (t : List ℕ). rest_of (characters_at t)) e ∙ at_quote (quotation_mark ∷ rest) refl

inside_marks : (inside rest : List ℕ) → rest_while is_unescaped inside ≡ quotation_mark ∷ rest → quotation_mark ∷ inside ≡ in_quotes (prefix_while is_unescaped inside) ++ rest
inside_marks inside rest e =
    ap (λ (t : List ℕ). quotation_mark ∷ t) (while_parts is_unescaped inside ∙ ap (λ (t : List ℕ). prefix_while is_unescaped inside ++ t) e ∙ sym (append_assoc (prefix_while is_unescaped inside) (quotation_mark ∷ []) rest))

slice_is : (inside rest : List ℕ) → rest_while is_unescaped inside ≡ quotation_mark ∷ rest → take (length (quotation_mark ∷ inside) - length rest) (quotation_mark ∷ inside) ≡ in_quotes (prefix_while is_unescaped inside)
slice_is inside rest e = prefix_is (quotation_mark ∷ inside) (in_quotes (prefix_while is_unescaped inside)) rest (inside_marks inside rest e)

-- the bytes behind such a string
pub plain_shorter : (text inside end rest : List ℕ) → text ≡ quotation_mark ∷ inside → end ≡ rest_while is_unescaped inside → end ≡ quotation_mark ∷ rest → length rest ≤ length text
plain_shorter text inside end rest opened run closed =
    omega (arith, ap length opened, ap length run, ap length closed, while_shorter is_unescaped inside)

-- such a string as an item, with white space before it
pub plain_item : (levels : ℕ) (text start inside end rest : List ℕ) → start ≡ rest_while is_white_space text → start ≡ quotation_mark ∷ inside → end ≡ rest_while is_unescaped inside → end ≡ quotation_mark ∷ rest
    → let x : List ℕ = take (length start - length rest) start in Some ((x, kind_at x), rest_while is_white_space rest) ≡ item_and_rest (item_at (value_at levels) text)
plain_item levels text start inside end rest white opened run closed =
    let e : rest_while is_unescaped inside ≡ quotation_mark ∷ rest = sym run ∙ closed in
    let P : List ℕ → Type 0 = λ t. rest_of (value_at levels t) ≡ Some rest in
    let read : rest_of (value_at levels (rest_while is_white_space text)) ≡ Some rest = subst P (sym opened ∙ white) (value_string levels (quotation_mark ∷ inside) refl ∙ string_read inside rest e) in
    let Q : List ℕ → Type 0 = λ t. Some ((take (length t - length rest) t, kind_at (take (length t - length rest) t)), rest_while is_white_space rest) ≡ item_and_rest (item_at (value_at levels) text) in
    subst Q (sym white) (sym (item_found levels text rest read))

plain_slice : (inside rest : List ℕ) → rest_while is_unescaped inside ≡ quotation_mark ∷ rest → IsPlain (take (length (quotation_mark ∷ inside) - length rest) (quotation_mark ∷ inside))
plain_slice inside rest e =
    subst IsPlain (sym (slice_is inside rest e)) (plain_tail (prefix_while is_unescaped inside) (bytes_all is_unescaped (prefix_while is_unescaped inside) (while_passes is_unescaped inside)))

pub slice_plain : (text inside end rest : List ℕ) → text ≡ quotation_mark ∷ inside → end ≡ rest_while is_unescaped inside → end ≡ quotation_mark ∷ rest → IsPlain (take (length text - length rest) text)
slice_plain text inside end rest opened run closed =
    subst (λ (t : List ℕ). IsPlain (take (length t - length rest) t)) (sym opened) (plain_slice inside rest (sym run ∙ closed))

pub slice_string : (text inside end rest : List ℕ) → text ≡ quotation_mark ∷ inside → end ≡ rest_while is_unescaped inside → end ≡ quotation_mark ∷ rest → kind_at (take (length text - length rest) text) ≡ Str
unfolding kind_at
slice_string text inside end rest opened run closed =
    subst (λ (t : List ℕ). kind_at (take (length t - length rest) t) ≡ Str) (sym opened) (ap kind_at (slice_is inside rest (sym run ∙ closed)))

-- ---- keys

-- a key that stands there to the letter
pub key_begins : (which : Key) (name text value : List ℕ) → IsNamed which name → IsTrue (list_all is_unescaped name) → text ≡ name ++ quotation_mark ∷ colon ∷ value → IsKeyAt text which value
key_begins which name text value named unescaped whole = record { name = name; behind = colon ∷ value; named = named; unescaped = unescaped; whole = whole; value_is = refl }

-- a key up to the next quotation mark
pub key_found : (kind : Key) (text end behind value : List ℕ) → end ≡ rest_while is_unescaped text → end ≡ quotation_mark ∷ behind → IsNamed kind (take (length text - length end) text) → Some value ≡ behind_first colon (rest_while is_white_space behind) → IsKeyAt text kind value
key_found kind text end behind value run closed named value_is =
    let parts : text ≡ prefix_while is_unescaped text ++ end = while_parts is_unescaped text ∙ ap (λ (t : List ℕ). prefix_while is_unescaped text ++ t) (sym run) in
    let name_is : take (length text - length end) text ≡ prefix_while is_unescaped text = prefix_is text (prefix_while is_unescaped text) end parts in
    record {
      name = prefix_while is_unescaped text;
      behind = behind;
      named = subst (IsNamed kind) name_is named;
      unescaped = bytes_all is_unescaped (prefix_while is_unescaped text) (while_passes is_unescaped text);
      whole = parts ∙ ap (λ (t : List ℕ). prefix_while is_unescaped text ++ t) closed;
      value_is = value_is;
    }

-- the member of a key and a value
pub key_read : (levels : ℕ) (text : List ℕ) (which : Key) (value : List ℕ) (x : Spelling) (end : List ℕ) (k : IsKeyAt text which value) → Some (x, end) ≡ item_and_rest (item_at (value_at levels) value)
    → (whole : List ℕ) → rest_while is_white_space whole ≡ quotation_mark ∷ text → Some ((in_quotes k.name, x), end) ≡ pair_and_rest (pair_at (value_at levels) whole)
key_read levels text which value x end k item whole white =
    let run : rest_while is_unescaped text ≡ quotation_mark ∷ k.behind = ap (rest_while is_unescaped) k.whole ∙ while_rest is_unescaped k.name (quotation_mark ∷ k.behind) (all_bytes is_unescaped k.name k.unescaped) refl in
    let string : rest_of (string_at (rest_while is_white_space whole)) ≡ Some k.behind = ap (λ (t : List ℕ). rest_of (string_at t)) white ∙ string_read text k.behind run in
    let h = cond_some (first (rest_while is_white_space k.behind) == colon) (drop 1 (rest_while is_white_space k.behind)) value (sym k.value_is) in
    let found = member_found levels whole k.behind x end string (eqb-true (first (rest_while is_white_space k.behind)) colon h.0) (ap (λ (t : List ℕ). item_and_rest (item_at (value_at levels) t)) h.1 ∙ sym item) in
    let split : quotation_mark ∷ text ≡ in_quotes k.name ++ k.behind = ap (λ (t : List ℕ). quotation_mark ∷ t) (k.whole ∙ sym (append_assoc k.name (quotation_mark ∷ []) k.behind)) in
    let key_is : take (length (rest_while is_white_space whole) - length k.behind) (rest_while is_white_space whole) ≡ in_quotes k.name = prefix_is (rest_while is_white_space whole) (in_quotes k.name) k.behind (white ∙ split) in
    sym (found ∙ ap (λ (n : List ℕ). Some ((n, x), end)) key_is)

key_says : (name : List ℕ) → IsTrue (list_all is_unescaped name) → Says (in_quotes name) name
key_says name unescaped = quotes_says (in_quotes name) name (record { text = refl; unescaped_bytes = unescaped })

-- ---- the last values, with one member more

last_more : (w : List ℕ) (ms : List MemberSpelling) (m : MemberSpelling) → last_value_spelt w (ms ++ m ∷ []) ≡ cond (says m.0 w) (Some m.1) (last_value_spelt w ms)
last_more w ms m = ap (λ (l : List MemberSpelling). option_map (λ (n : MemberSpelling). n.1) (find (λ n. says n.0 w) l)) (reverse-append ms (m ∷ [])) ∙ by (says m.0 w)
  where
    by : (b : Bool) → option_map (λ (n : MemberSpelling). n.1) (cond b (Some m) (last_spelt w ms)) ≡ cond b (Some m.1) (last_value_spelt w ms)
    by true = refl
    by false = refl

-- one of the four, where the name of the member is this one or not
value_more : (w name : List ℕ) (ms : List MemberSpelling) (value : items.Item) (old : Option items.Item) (same : Bool) → bytes_eq name w ≡ same → Says (in_quotes name) name → option_map item_view old ≡ last_value_spelt w ms
    → option_map item_view (cond same (Some value) old) ≡ last_value_spelt w (ms ++ (in_quotes name, item_view value) ∷ [])
value_more w name ms value old same test said held =
    let told : says (in_quotes name) w ≡ same = ap (λ (d : Option (List ℕ)). option_eq bytes_eq d (Some w)) said ∙ test in
    by same ∙ sym (ap (λ (b : Bool). cond b (Some (item_view value)) (last_value_spelt w ms)) told) ∙ sym (last_more w ms (in_quotes name, item_view value))
  where
    by : (b : Bool) → option_map item_view (cond b (Some value) old) ≡ cond b (Some (item_view value)) (last_value_spelt w ms)
    by true = refl
    by false = held

module _ (name : List ℕ) (said : Says (in_quotes name) name) (ms : List MemberSpelling) (value : items.Item) (plain : Bool) (old : NamedMembers) (held : AreLastValues ms old) where
  abbrev With : Key → Type 0
  With kind = AreLastValues (ms ++ (in_quotes name, item_view value) ∷ []) (with_value kind value plain old)

  pub last_values : (kind : Key) → IsNamed kind name → With kind
  last_values key.Kind e = record {
    kind = value_more (codes "type") name ms value old.kind true (ap (λ (t : List ℕ). bytes_eq t (codes "type")) e) said held.kind;
    id = value_more (codes "id") name ms value old.id false (ap (λ (t : List ℕ). bytes_eq t (codes "id")) e) said held.id;
    content = value_more (codes "data") name ms value old.content false (ap (λ (t : List ℕ). bytes_eq t (codes "data")) e) said held.content;
    token = value_more (codes "token") name ms value old.token false (ap (λ (t : List ℕ). bytes_eq t (codes "token")) e) said held.token;
  }
  last_values key.Id e = record {
    kind = value_more (codes "type") name ms value old.kind false (ap (λ (t : List ℕ). bytes_eq t (codes "type")) e) said held.kind;
    id = value_more (codes "id") name ms value old.id true (ap (λ (t : List ℕ). bytes_eq t (codes "id")) e) said held.id;
    content = value_more (codes "data") name ms value old.content false (ap (λ (t : List ℕ). bytes_eq t (codes "data")) e) said held.content;
    token = value_more (codes "token") name ms value old.token false (ap (λ (t : List ℕ). bytes_eq t (codes "token")) e) said held.token;
  }
  last_values key.Content e = record {
    kind = value_more (codes "type") name ms value old.kind false (ap (λ (t : List ℕ). bytes_eq t (codes "type")) e) said held.kind;
    id = value_more (codes "id") name ms value old.id false (ap (λ (t : List ℕ). bytes_eq t (codes "id")) e) said held.id;
    content = value_more (codes "data") name ms value old.content true (ap (λ (t : List ℕ). bytes_eq t (codes "data")) e) said held.content;
    token = value_more (codes "token") name ms value old.token false (ap (λ (t : List ℕ). bytes_eq t (codes "token")) e) said held.token;
  }
  last_values key.Token e = record {
    kind = value_more (codes "type") name ms value old.kind false (ap (λ (t : List ℕ). bytes_eq t (codes "type")) e) said held.kind;
    id = value_more (codes "id") name ms value old.id false (ap (λ (t : List ℕ). bytes_eq t (codes "id")) e) said held.id;
    content = value_more (codes "data") name ms value old.content false (ap (λ (t : List ℕ). bytes_eq t (codes "data")) e) said held.content;
    token = value_more (codes "token") name ms value old.token true (ap (λ (t : List ℕ). bytes_eq t (codes "token")) e) said held.token;
  }
  last_values key.Other e = record {
    kind = value_more (codes "type") name ms value old.kind false e.0 said held.kind;
    id = value_more (codes "id") name ms value old.id false e.1 said held.id;
    content = value_more (codes "data") name ms value old.content false e.2 said held.content;
    token = value_more (codes "token") name ms value old.token false e.3 said held.token;
  }

plain_values : (kind : Key) (value : items.Item) (plain : Bool) (old : NamedMembers) → (IsTrue plain → IsPlainFor kind value) → PlainIfSaid old → PlainIfSaid (with_value kind value plain old)
plain_values key.Kind value plain old is held e =
    let h = both_true old.are_plain plain e in
    let p = held h.0 in
    record { kind = is h.1; id = p.id; token = p.token }
plain_values key.Id value plain old is held e =
    let h = both_true old.are_plain plain e in
    let p = held h.0 in
    record { kind = p.kind; id = is h.1; token = p.token }
plain_values key.Content value plain old is held e =
    let p = held (both_true old.are_plain plain e).0 in
    record { kind = p.kind; id = p.id; token = p.token }
plain_values key.Token value plain old is held e =
    let h = both_true old.are_plain plain e in
    let p = held h.0 in
    record { kind = p.kind; id = p.id; token = is h.1 }
plain_values key.Other value plain old is held e =
    let p = held (both_true old.are_plain plain e).0 in
    record { kind = p.kind; id = p.id; token = p.token }

pub takes_member : (levels : ℕ) (text : List ℕ) (kind : Key) (behind : List ℕ) (value : items.Item) (plain : Bool) (old new : NamedMembers) (rest : List ℕ) → IsKeyAt text kind behind → Some (item_view value, rest) ≡ item_and_rest (item_at (value_at levels) behind) → (IsTrue plain → IsPlainFor kind value) → new ≡ with_value kind value plain old
    → TakesMember levels text old new rest
takes_member levels text kind behind value plain old new rest k item is e = record {
  member = (in_quotes k.name, item_view value);
  read = key_read levels text kind behind (item_view value) rest k item;
  last = λ ms held. subst (AreLastValues (ms ++ (in_quotes k.name, item_view value) ∷ [])) (sym e) (last_values k.name (key_says k.name k.unescaped) ms value plain old held kind k.named);
  plain = λ held. subst PlainIfSaid (sym e) (plain_values kind value plain old is held);
}

-- ---- member by member

-- the members before the rest were read, where one more stands there
pub record ReadSoFar (levels : ℕ) (text rest : List ℕ) (found : NamedMembers) : Type 0 where
  pub seen : List MemberSpelling
  pub next : (m : MemberSpelling) (after : List ℕ) → Some (m, after) ≡ pair_and_rest (pair_at (value_at levels) rest)
      → onto (seen ++ m ∷ []) (pairs_and_rest (parts_until right_brace (behind comma (pair_at (value_at levels))) after)) ≡ members_and_rest (contents_at right_brace (pair_at (value_at levels)) text)
  pub last : AreLastValues seen found
  pub plain : PlainIfSaid found

-- where no brace stands
pub reads_first : (levels : ℕ) (text : List ℕ) (found : NamedMembers) → None ≡ behind_first right_brace (rest_while is_white_space text) → AreLastValues [] found → ArePlain found → ReadSoFar levels text text found
reads_first levels text found missing last plain = record {
  seen = [];
  next = λ m after e. sym (start_some levels text m after no_brace (sym e));
  last = last;
  plain = λ _. plain;
}
  where
    no_brace : first (rest_while is_white_space text) ≢ right_brace
    no_brace here =
        let shut : first (rest_while is_white_space text) == right_brace ≡ true = eq-eqb _ right_brace here in
        let some : None ≡ Some (drop 1 (rest_while is_white_space text)) = missing ∙ ap (λ (v : Bool). cond v (Some (drop 1 (rest_while is_white_space text))) None) shut in
        absurd cc

module _ (levels : ℕ) (text rest inside after : List ℕ) (old new : NamedMembers) (so_far : ReadSoFar levels text rest old) (opened : Some inside ≡ behind_first quotation_mark (rest_while is_white_space rest)) (takes : TakesMember levels inside old new after) where
  white_is : rest_while is_white_space rest ≡ quotation_mark ∷ inside
  white_is = first_byte_is quotation_mark (rest_while is_white_space rest) inside (omega arith) opened

  one_read : Some (takes.member, after) ≡ pair_and_rest (pair_at (value_at levels) rest)
  one_read = takes.read rest white_is

  all_read : onto (so_far.seen ++ takes.member ∷ []) (pairs_and_rest (parts_until right_brace (behind comma (pair_at (value_at levels))) after)) ≡ members_and_rest (contents_at right_brace (pair_at (value_at levels)) text)
  all_read = so_far.next takes.member after one_read

  pub reads_more : (more : List ℕ) → Some more ≡ behind_first comma after → ReadSoFar levels text more new
  reads_more more divided =
      let h = cond_some (first after == comma) (drop 1 after) more (sym divided) in
      record {
        seen = so_far.seen ++ takes.member ∷ [];
        next = λ m end e. sym (collect_some levels (so_far.seen ++ takes.member ∷ []) after m end (eqb-true (first after) comma h.0) (ap (λ (t : List ℕ). pair_and_rest (pair_at (value_at levels) t)) h.1 ∙ sym e)) ∙ all_read;
        last = takes.last so_far.seen so_far.last;
        plain = takes.plain so_far.plain;
      }

  pub reads_all : (end : List ℕ) → Some end ≡ behind_first right_brace after → TakesAll levels text new end
  reads_all end closed =
      let h = cond_some (first after == right_brace) (drop 1 after) end (sym closed) in
      record {
        members = so_far.seen ++ takes.member ∷ [];
        read = ap (λ (t : List ℕ). Some (so_far.seen ++ takes.member ∷ [], t)) (sym h.1) ∙ sym (collect_close levels (so_far.seen ++ takes.member ∷ []) after (eqb-true (first after) right_brace h.0)) ∙ all_read;
        last = takes.last so_far.seen so_far.last;
        plain = takes.plain so_far.plain;
      }

  pub reads_on : (more : List ℕ) → Some more ≡ behind_first comma after → length more < length rest
  reads_on more divided =
      let h = cond_some (first after == comma) (drop 1 after) more (sym divided) in
      let byte = first_byte_is comma after more (omega arith) divided in
      omega (arith, ap length byte, members_shorter levels rest takes.member after (sym one_read))

pub reads_none : (levels : ℕ) (text end : List ℕ) (found : NamedMembers) → Some end ≡ behind_first right_brace (rest_while is_white_space text) → AreLastValues [] found → ArePlain found → TakesAll levels text found end
reads_none levels text end found closed last plain =
    let h = cond_some (first (rest_while is_white_space text) == right_brace) (drop 1 (rest_while is_white_space text)) end (sym closed) in
    record {
      members = [];
      read = sym (start_empty levels text (eqb-true _ right_brace h.0) ∙ ap (λ (t : List ℕ). Some ([], t)) h.1);
      last = last;
      plain = λ _. plain;
    }

-- ---- a line

-- a line of white space, these members in braces, and white space
line_of_members : (levels : ℕ) (line text end : List ℕ) (ms : List MemberSpelling) → Some text ≡ behind_first left_brace (rest_while is_white_space line) → Some (ms, end) ≡ members_and_rest (contents_at right_brace (pair_at (value_at levels)) text) → length (rest_while is_white_space end) ≡ 0
    → Some ms ≡ option_map (λ (c : Contents Pair). map pair_view (parts_of c)) (line_at levels line)
unfolding line_at
line_of_members levels line text end ms opened held nothing =
    let h = cond_some (first (rest_while is_white_space line) == left_brace) (drop 1 (rest_while is_white_space line)) text (sym opened) in
    let a = map_some (λ (x : Contents Pair × List ℕ). (map pair_view (parts_of x.0), x.1)) (contents_at right_brace (pair_at (value_at levels)) text) (ms, end) (sym held) in
    let rest_is : a.0.1 ≡ end = ap (λ (z : List MemberSpelling × List ℕ). z.1) a.2 in
    let parts_are : map pair_view (parts_of a.0.0) ≡ ms = ap (λ (z : List MemberSpelling × List ℕ). z.0) a.2 in
    let ended : length (rest_while is_white_space a.0.1) == 0 ≡ true = eq-eqb _ 0 (ap (λ (z : List ℕ). length (rest_while is_white_space z)) rest_is ∙ nothing) in
    rw (h.0, h.1, a.1, ended) (ap (λ (z : List MemberSpelling). Some z) (sym parts_are))

pub line_takes : (levels : ℕ) (line text end : List ℕ) (found : NamedMembers) → Some text ≡ behind_first left_brace (rest_while is_white_space line) → TakesAll levels text found end → length (rest_while is_white_space end) ≡ 0 → LineTakes levels line found
line_takes levels line text end found opened takes nothing = record {
  members = takes.members;
  read = line_of_members levels line text end takes.members opened takes.read nothing;
  last = takes.last;
  plain = takes.plain;
}

-- ---- the values are spelt

value_spelt : (w : List ℕ) (ms : List MemberSpelling) (found : Option items.Item) → AreMemberSpellings ms → option_map item_view found ≡ last_value_spelt w ms → IsSpeltValue found
value_spelt w ms found spelt e = by (last_spelt w ms) refl found e
  where
    by : (m : Option MemberSpelling) → last_spelt w ms ≡ m → (f : Option items.Item) → option_map item_view f ≡ option_map (λ (x : MemberSpelling). x.1) m → IsSpeltValue f
    by m at None e = tt
    by None at (Some item) e = absurd cc
    by (Some m) at (Some item) e =
        let named : IsMemberSpelling m = found_member_spelt (λ (x : MemberSpelling). x) w ms (Some m) spelt (sym at) in
        let same : item_view item ≡ m.1 = cc in
        subst IsSpelling (sym same) named.value

pub values_spelt : (ms : List MemberSpelling) (found : NamedMembers) → AreMemberSpellings ms → AreLastValues ms found → AreSpeltValues found
values_spelt ms found spelt last = record {
  kind = value_spelt (codes "type") ms found.kind spelt last.kind;
  id = value_spelt (codes "id") ms found.id spelt last.id;
  content = value_spelt (codes "data") ms found.content spelt last.content;
  token = value_spelt (codes "token") ms found.token spelt last.token;
}
