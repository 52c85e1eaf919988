-- What contracts see of a record that is read connection by connection.
use Rattle.std.specs.Prelude.{ℕ, ◌+◌, min, Bool, true, false, List, [], Option, option_map}
use Rattle.feed_records.specs.Parting.{body_of, body_lines, behind_body, most}
use Rattle.feed_records.specs.declared.screen_lines.ScreenLines.{ScreenLines}

-- what was looked at of a connection: where another one begins at the front, nothing
abbrev pub front_by : Bool → List ℕ → List ℕ
front_by true front = []
front_by false front = front

module _ {L : Type 0} where
  -- what it is read by
  abbrev pub source_of : ScreenLines L → L
  source_of it = it.source

  -- how many lines were passed since the connection began
  abbrev pub lines_in : ScreenLines L → ℕ
  lines_in it = it.lines

  -- what is left of the connection, where it is known what is left of the record
  abbrev pub body_in : (L → Option (List ℕ)) → ScreenLines L → Option (List ℕ)
  body_in left it = option_map body_of (left it.source)

  -- how many lines the connection has, and what is left of the record behind it
  abbrev pub beyond_in : (L → Option (List ℕ)) → ScreenLines L → Option (ℕ × List ℕ)
  beyond_in left it =
      option_map (λ text. (min (it.lines + body_lines text) most, behind_body text))
      (left it.source)

  abbrev pub front_in : (L → List ℕ) → ScreenLines L → List ℕ
  front_in front it = front_by it.is_over (front it.source)
