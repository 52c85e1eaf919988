-- What servers of the field get wrong on the lines of a feed (CLICS Contest API 2023-06 and
-- 2020-03, event feed).
use Rattle.std.specs.Prelude.{◌≡◌, ◌+◌, ◌||◌, ◌&&◌, not, ℕ, Bool, true, false, List, [], ◌∷◌, ◌++◌, Option, None, Some, codes, decimal, count_by, bytes_eq, cond, is_some}
use Rattle.std.specs.List.{AllZip, list_any, position_from}
use Rattle.std.specs.Option.{option_map_or}
use Rattle.std.specs.BTreeSet.{contains_text}
use Rattle.feed_text.specs.Ascii.{line_feed}
use Rattle.feed_text.specs.Members.{MemberSpelling, last_spelt}
use Rattle.feed_text.specs.Scan.{HoldsMembers, HoldsLast}
use Rattle.feed_text.specs.Strings.{says}
use Rattle.feed_changes.specs.declared.change.Change.{Change}
use Rattle.feed_changes.specs.declared.change.Change.TheVariants.{Set, Remove, Empty, Single, Clear}
use Rattle.feed_note.specs.Counts.{IsRead, is_note, has_token}
use Rattle.feed_note.specs.Lines.{lines}
use Rattle.feed_note.specs.Notes.{changes_in, token_in}
use Rattle.feed_note.specs.declared.line.Line.{Line}
use Rattle.feed_note.specs.declared.line.Line.TheVariants.{KeepAlive, Note}
use Rattle.feed_commands.specs.declared.commands.findings.Finding.{Finding}
use Rattle.feed_commands.specs.declared.commands.findings.Findings.{Findings}
use Rattle.feed_commands.specs.declared.commands.findings.Reader.{Reader}
use Rattle.feed_commands.specs.declared.commands.findings.Said.{Said}

-- ---- tokens

-- whether the line has this token
abbrev pub has_this : List ℕ → Line → Bool
has_this token note = option_map_or (λ its_own. bytes_eq its_own token) (token_in note) false

-- Whether the line's token stood on a line before: whoever resumes from such a token can't be told
-- which of its lines is meant.
abbrev pub comes_again : List Line → Line → Bool
comes_again before note =
    option_map_or (λ token. list_any (has_this token) before) (token_in note) false

-- whether the line is a notification, and neither it nor a line before it has a token: nothing of
-- it can be shown yet
abbrev pub is_tokenless : List Line → Line → Bool
is_tokenless before note = is_note note && not (list_any has_token before || has_token note)

-- of each line, whether this is so of it and the lines before it, where these stand before them all
unfoldable pub of_each : (List Line → Line → Bool) → List Line → List Line → List Bool
of_each is_so before [] = []
of_each is_so before (note ∷ notes) = is_so before note ∷ of_each is_so (before ++ note ∷ []) notes

-- ---- formats

-- the line holds an object, and this is whether a member of it has the name
abbrev pub HasMember : List ℕ → List ℕ → Bool → Type 0
HasMember name line has =
    (members : List MemberSpelling) × HoldsMembers line members
    × (has ≡ is_some (last_spelt name members))

-- a notification in the format of 2020-03 has a member `op`; a keep-alive is in none
abbrev pub IsOlderBy : List ℕ → Line → Bool → Type 0
IsOlderBy line KeepAlive is_older = is_older ≡ false
IsOlderBy line (Note changes token) is_older = HasMember (codes "op") line is_older

-- this is whether the line is read, and is such a notification
abbrev pub IsOlder : List ℕ → Bool → Type 0
IsOlder line is_older = (note : Line) × IsRead line note × IsOlderBy line note is_older

-- ---- ids

-- this is whether the last member `id` of an object says this id
abbrev pub OwnsId : List ℕ → List ℕ → Bool → Type 0
OwnsId object id owns =
    (found : Option MemberSpelling) × HoldsLast (codes "id") object found
    × (owns ≡ option_map_or (λ member. says member.1.0 id) found false)

-- the change puts an object under an id that isn't its own
abbrev pub IsMisnamedSet : Change → Bool → Type 0
IsMisnamedSet (Set kind id object) is_so =
    (owns : Bool) × OwnsId object id owns × (is_so ≡ not owns)
IsMisnamedSet (Remove kind id) is_so = is_so ≡ false
IsMisnamedSet (Empty kind) is_so = is_so ≡ false
IsMisnamedSet (Single kind object) is_so = is_so ≡ false
IsMisnamedSet (Clear kind) is_so = is_so ≡ false

-- A notification that does is one change alone: those of a collection take their ids from its
-- objects.
abbrev pub IsMisnamedBy : List Change → Bool → Type 0
IsMisnamedBy [] is_so = is_so ≡ false
IsMisnamedBy (change ∷ []) is_so = IsMisnamedSet change is_so
IsMisnamedBy (change ∷ other ∷ changes) is_so = is_so ≡ false

-- this is whether the line is read, and does that
abbrev pub IsMisnamed : List ℕ → Bool → Type 0
IsMisnamed line is_so = (note : Line) × IsRead line note × IsMisnamedBy (changes_in note) is_so

-- ---- what was found

abbrev pub is_true : Bool → Bool
is_true b = b

-- it is so on this many lines, and this is the first of them, counted from 1
pub record IsFound (marks : List Bool) (finding : Finding) : Type 0 where
  pub count : finding.count ≡ count_by is_true marks
  pub first : finding.first ≡ position_from is_true 1 marks

-- the lines of the text are read, and this is found on them
pub record AreFound (text : List ℕ) (findings : Findings) : Type 0 where
  pub notes : List Line
  pub older : List Bool
  pub misnamed : List Bool
  pub read : AllZip IsRead (lines text) notes
  pub are_older : AllZip IsOlder (lines text) older
  pub are_misnamed : AllZip IsMisnamed (lines text) misnamed
  pub repeats_is : IsFound (of_each comes_again [] notes) findings.repeats
  pub tokenless_is : IsFound (of_each is_tokenless [] notes) findings.tokenless
  pub older_is : IsFound older findings.older
  pub misnamed_is : IsFound misnamed findings.misnamed

-- the line that tells one of them
abbrev pub finding_text : List ℕ → Finding → List ℕ
finding_text name finding = option_map_or
    (λ line. name ++ codes " " ++ decimal finding.count ++ codes ", first at line " ++ decimal line
    ++ line_feed ∷ [])
    finding.first (name ++ codes " 0\n")

-- the lines that tell them
abbrev pub findings_text : Findings → List ℕ
findings_text findings =
    finding_text (codes "repeated tokens") findings.repeats
    ++ finding_text (codes "lines before the first token") findings.tokenless
    ++ finding_text (codes "lines in the format of 2020-03") findings.older
    ++ finding_text (codes "ids that are not the object's") findings.misnamed

-- ---- one line more

-- nothing is found yet
pub record TellsNothing (finding : Finding) : Type 0 where
  pub count : finding.count ≡ 0
  pub first : finding.first ≡ None

-- whether the set has the token, if there is one
abbrev pub is_in : (List ℕ → Bool) → Option (List ℕ) → Bool
is_in set token = option_map_or set token false

-- whether this text is in a set with the token
abbrev pub is_with : Option (List ℕ) → List ℕ → Bool → Bool
is_with token other before = option_map_or (λ t. cond (bytes_eq t other) true before) token before

-- the first line, where it is so on this line or was on one before
abbrev pub first_line_found : Option ℕ → Bool → ℕ → Option ℕ
first_line_found (Some line) found number = Some line
first_line_found None found number = cond found (Some number) None

-- the line is read, and this is what it says
pub record IsSaid (line : List ℕ) (said : Said) : Type 0 where
  pub note : Line
  pub read : IsRead line note
  pub token_is : said.token ≡ token_in note
  pub note_is : said.is_note ≡ is_note note
  pub older_is : IsOlderBy line note said.is_older
  pub misnamed_is : IsMisnamedBy (changes_in note) said.is_misnamed

-- it is so on the line of this number, or not
pub record FindsOn (is_so : Bool) (line : ℕ) (old new : Finding) : Type 0 where
  pub count : new.count ≡ old.count + cond is_so 1 0
  pub first : new.first ≡ first_line_found old.first is_so line

-- what one line more says is taken
pub record TakesSaid (said : Said) (old new : Reader) : Type 0 where
  pub seen : (other : List ℕ)
      → contains_text new.seen other ≡ is_with said.token other (contains_text old.seen other)
  pub has_token : new.has_token ≡ (old.has_token || is_some said.token)
  pub lines : new.lines ≡ old.lines + 1
  pub repeats : FindsOn (is_in (contains_text old.seen) said.token)
      (old.lines + 1) old.findings.repeats new.findings.repeats
  pub tokenless : FindsOn (said.is_note && not (old.has_token || is_some said.token))
      (old.lines + 1) old.findings.tokenless new.findings.tokenless
  pub older : FindsOn said.is_older (old.lines + 1) old.findings.older new.findings.older
  pub misnamed : FindsOn said.is_misnamed
      (old.lines + 1) old.findings.misnamed new.findings.misnamed

-- one line more is read, and taken
abbrev pub ReadsOneLine : List ℕ → Reader → Reader → Type 0
ReadsOneLine line old new = (said : Said) × IsSaid line said × TakesSaid said old new
