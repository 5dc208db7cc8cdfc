-- Escapes, and what stands between quotes (Erlang Reference Manual, Escape Sequences).
use Rattle.std.specs.Prelude.{◌≡◌, ℕ, ◌%◌, ◌==◌, ◌&&◌, if◌then◌else◌, List, [], ◌∷◌, length, take, drop, Result, Ok, Err}
use Rattle.std.specs.Str.Parse.{digits_value}
use lib.Utf8.{scalar}
use Rattle.erl_chars.specs.Chars.{is_digit, front, after_front}
use Rattle.erl_chars.specs.declared.escapes.EscapeError.{EscapeError}
use Rattle.erl_chars.specs.declared.escapes.EscapeError.TheVariants.{Cut, Wrong}

-- what characters begin with, behind a backslash or between quotes
pub data Step : Type 0 where
  -- a character, and what is left behind it
  stands : ℕ → List ℕ → Step
  -- the closing quote, and what is left behind it
  closing : List ℕ → Step
  -- the end of the input, before an escape or the quotes are whole
  cut : Step
  -- an escape that is none
  wrong : Step

-- Escapes, behind the backslash

-- the character that a letter stands for: backspace, delete, escape, form feed, newline, carriage return, space,
-- tab and vertical tab; every other character stands for itself
abbrev pub named : ℕ → ℕ
named c =
    if c == 98 then 8 else (if c == 100 then 127 else
    (if c == 101 then 27 else (if c == 102 then 12 else
    (if c == 110 then 10 else (if c == 114 then 13 else
    (if c == 115 then 32 else (if c == 116 then 9 else (if c == 118 then 11 else c))))))))

-- up to three octal digits, behind the first
abbrev pub octal : ℕ → List ℕ → Step
octal c cs =
    stands (digits_value 8 (c ∷ take 2 (front (is_digit 8) cs))) (drop (length (take 2 (front (is_digit 8) cs))) cs)

-- digits between braces, by those digits and what is left behind them: a closing brace (125), and a number that is a
-- Unicode scalar value
abbrev pub braced : List ℕ → List ℕ → Step
braced ds [] = cut
braced [] (c ∷ cs) = wrong
braced (d ∷ ds) (c ∷ cs) =
    if (c == 125) && scalar (digits_value 16 (d ∷ ds)) then stands (digits_value 16 (d ∷ ds)) cs else wrong

-- two digits, behind the first
abbrev pub two_digits : ℕ → List ℕ → Step
two_digits c [] = cut
two_digits c (d ∷ cs) = if is_digit 16 d then stands (digits_value 16 (c ∷ d ∷ [])) cs else wrong

-- hexadecimal, behind `x`: two digits, or any number of them between braces
abbrev pub hexadecimal : List ℕ → Step
hexadecimal [] = cut
hexadecimal (c ∷ cs) =
    if c == 123 then braced (front (is_digit 16) cs) (after_front (is_digit 16) cs) else
    (if is_digit 16 c then two_digits c cs else wrong)

-- a control character, behind `^`: 127 by `?` (63), else what the low five bits say
abbrev pub control : List ℕ → Step
control [] = cut
control (c ∷ cs) = stands (if c == 63 then 127 else c % 32) cs

-- an escape, behind its backslash: octal, hexadecimal by `x` (120), control by `^` (94), or one character
abbrev pub escape : List ℕ → Step
escape [] = cut
escape (c ∷ cs) =
    if is_digit 8 c then octal c cs else (if c == 120 then hexadecimal cs else
    (if c == 94 then control cs else stands (named c) cs))

-- what reading an escape answers, as a step
abbrev pub escape_step : Result ℕ EscapeError → List ℕ → Step
escape_step (Ok c) rest = stands c rest
escape_step (Err Cut) rest = cut
escape_step (Err Wrong) rest = wrong

-- Quotes, behind the opening one

-- one character between quotes: the quote itself closes them, a backslash (92) begins an escape, and all others stand
-- for themselves
abbrev pub character : ℕ → List ℕ → Step
character quote [] = cut
character quote (c ∷ cs) = if c == quote then closing cs else (if c == 92 then escape cs else stands c cs)

-- these characters are written, one after the other, and so much is left behind them
abbrev pub Written : ℕ → List ℕ → List ℕ → List ℕ → Type 0
Written quote cs [] rest = cs ≡ rest
Written quote cs (v ∷ vs) rest = (more : List ℕ) × (character quote cs ≡ stands v more) × Written quote more vs rest

-- what stands between quotes
pub data Quoted : Type 0 where
  -- the characters, and what is left behind the closing quote
  closed : List ℕ → List ℕ → Quoted
  -- the end of the input came first
  unclosed : Quoted
  -- an escape is none: what is left from its backslash on
  bad_escape : List ℕ → Quoted

-- what stands in front between quotes, behind the opening one
abbrev pub IsQuoted : ℕ → List ℕ → Quoted → Type 0
IsQuoted quote cs (closed vs rest) = (here : List ℕ) × Written quote cs vs here × (character quote here ≡ closing rest)
IsQuoted quote cs unclosed = (vs : List ℕ) × (here : List ℕ) × Written quote cs vs here × (character quote here ≡ cut)
IsQuoted quote cs (bad_escape here) = (vs : List ℕ) × Written quote cs vs here × (character quote here ≡ wrong)
