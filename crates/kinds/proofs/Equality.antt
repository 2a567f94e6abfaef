-- The tests that two places or two sorts are one.
use mathlib.Core.Path.{◌≡◌, refl, ap}
use mathlib.Core.Bool.{true}
use Rattle.std.specs.Prelude.{Option, Some, None}
use Rattle.kinds.specs.declared.Place.{Place}
use Rattle.kinds.specs.declared.Place.TheVariants.{Nowhere, Variable, HighEnd, FirstValue, Transition, Instruction, Expression}
use Rattle.kinds.specs.declared.Sort.{Sort}
use Rattle.kinds.specs.declared.Sort.TheVariants.{Boolean, Number}
use Rattle.kinds.specs.Sameness.{is_place, is_sort, same_sort}

pub place_itself : (p : Place) → is_place p p ≡ true
place_itself Nowhere = refl
place_itself Variable = refl
place_itself HighEnd = refl
place_itself FirstValue = refl
place_itself Transition = refl
place_itself Instruction = refl
place_itself Expression = refl

pub one_place : (p q : Place) → is_place p q ≡ true → p ≡ q
one_place Nowhere Nowhere e = refl
one_place Nowhere Variable e = cc
one_place Nowhere HighEnd e = cc
one_place Nowhere FirstValue e = cc
one_place Nowhere Transition e = cc
one_place Nowhere Instruction e = cc
one_place Nowhere Expression e = cc
one_place Variable Nowhere e = cc
one_place Variable Variable e = refl
one_place Variable HighEnd e = cc
one_place Variable FirstValue e = cc
one_place Variable Transition e = cc
one_place Variable Instruction e = cc
one_place Variable Expression e = cc
one_place HighEnd Nowhere e = cc
one_place HighEnd Variable e = cc
one_place HighEnd HighEnd e = refl
one_place HighEnd FirstValue e = cc
one_place HighEnd Transition e = cc
one_place HighEnd Instruction e = cc
one_place HighEnd Expression e = cc
one_place FirstValue Nowhere e = cc
one_place FirstValue Variable e = cc
one_place FirstValue HighEnd e = cc
one_place FirstValue FirstValue e = refl
one_place FirstValue Transition e = cc
one_place FirstValue Instruction e = cc
one_place FirstValue Expression e = cc
one_place Transition Nowhere e = cc
one_place Transition Variable e = cc
one_place Transition HighEnd e = cc
one_place Transition FirstValue e = cc
one_place Transition Transition e = refl
one_place Transition Instruction e = cc
one_place Transition Expression e = cc
one_place Instruction Nowhere e = cc
one_place Instruction Variable e = cc
one_place Instruction HighEnd e = cc
one_place Instruction FirstValue e = cc
one_place Instruction Transition e = cc
one_place Instruction Instruction e = refl
one_place Instruction Expression e = cc
one_place Expression Nowhere e = cc
one_place Expression Variable e = cc
one_place Expression HighEnd e = cc
one_place Expression FirstValue e = cc
one_place Expression Transition e = cc
one_place Expression Instruction e = cc
one_place Expression Expression e = refl

pub sort_itself : (s : Sort) → is_sort s s ≡ true
sort_itself Boolean = refl
sort_itself Number = refl

pub one_sort : (a b : Sort) → is_sort a b ≡ true → a ≡ b
one_sort Boolean Boolean e = refl
one_sort Boolean Number e = cc
one_sort Number Boolean e = cc
one_sort Number Number e = refl

pub wanted_itself : (o : Option Sort) → same_sort o o ≡ true
wanted_itself None = refl
wanted_itself (Some s) = sort_itself s

pub one_wanted : (a b : Option Sort) → same_sort a b ≡ true → a ≡ b
one_wanted None None e = refl
one_wanted None (Some b) e = cc
one_wanted (Some a) None e = cc
one_wanted (Some a) (Some b) e = ap Some (one_sort a b e)
