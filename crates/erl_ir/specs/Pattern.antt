-- Patterns, as contracts see them (Erlang Reference Manual, Expressions, Pattern Matching).
use Rattle.std.specs.Prelude.{ℕ, ◌+◌, max}
use Rattle.erl_term.specs.Tree.{Tree}

mutual
  pub data Pat : Type 0 where
    -- a literal, which an equal term matches
    literal : Tree → Pat
    -- A variable, by its index in the bindings. One that is unbound is bound by the match; a bound one matches what it is
    -- bound to.
    variable : ℕ → Pat
    -- the anonymous variable `_`
    anything : Pat
    -- `{P1,..,Pn}`
    tuple : Pats → Pat
    -- `[P1,..,Pn]`
    list : Pats → Pat
    -- `[P1,..,Pn|P]`: the last of the patterns is the tail's
    cons : Pats → Pat
    -- `P1 = .. = Pn`, which a term matches that matches each
    alias : Pats → Pat

  -- patterns in a row
  pub data Pats : Type 0 where
    none : Pats
    more : Pat → Pats → Pats

-- how many patterns stand in the row
abbrev pub pat_count : Pats → ℕ
pat_count none = 0
pat_count (more p ps) = 1 + pat_count ps

abbrev mutual
  -- How deep a pattern is nested: 0 for a literal, a variable and `_`, else 1 and the greatest depth of its parts.
  pub pat_depth : Pat → ℕ
  pat_depth (literal t) = 0
  pat_depth (variable index) = 0
  pat_depth anything = 0
  pat_depth (tuple ps) = 1 + pats_depth ps
  pat_depth (list ps) = 1 + pats_depth ps
  pat_depth (cons ps) = 1 + pats_depth ps
  pat_depth (alias ps) = 1 + pats_depth ps

  -- the greatest depth of patterns in a row, 0 where there are none
  pub pats_depth : Pats → ℕ
  pats_depth none = 0
  pats_depth (more p ps) = max (pat_depth p) (pats_depth ps)
