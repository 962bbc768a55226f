-- The words of a line. Assumes nothing.
use Rattle.std.specs.Prelude.{ℕ, Bool, not, ◌||◌, List, take, drop, ◌==◌}
use Rattle.std.specs.List.{prefix_len}

-- space, tab, carriage return and line feed
abbrev pub blank : ℕ → Bool
blank c = c == 32 || c == 9 || c == 13 || c == 10

abbrev pub solid : ℕ → Bool
solid c = not (blank c)

-- a number sign begins a comment
abbrev pub no_comment : ℕ → Bool
no_comment c = not (c == 35)

abbrev pub after_blanks : List ℕ → List ℕ
after_blanks text = drop (prefix_len blank text) text

-- the longest run without a blank, once the blanks in front are passed; empty where there is no word
abbrev pub first_word : List ℕ → List ℕ
first_word text = take (prefix_len solid (after_blanks text)) (after_blanks text)

abbrev pub after_word : List ℕ → List ℕ
after_word text = drop (prefix_len solid (after_blanks text)) (after_blanks text)

abbrev pub uncommented : List ℕ → List ℕ
uncommented line = take (prefix_len no_comment line) line
