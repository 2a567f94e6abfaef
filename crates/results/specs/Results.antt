-- What a function answers, with what it leaves in the cells that were lent to it. 01: a promise "covers every cell lent".
use Rattle.std.specs.Prelude.{List, ◌++◌, length, drop}

-- an answer with what is left of a thing that was lent
pub record Answered (R A : Type 0) : Type 0 where
  pub answer : R
  pub left : A

abbrev pub answered : {R A : Type 0} → R → A → Answered R A
answered r a = record { answer = r; left = a }

-- 01: "cells past a result stay": the first cells are these, and the cells from there on are as they were
abbrev pub over : {A : Type 0} → List A → List A → List A
over new old = new ++ drop (length new) old
