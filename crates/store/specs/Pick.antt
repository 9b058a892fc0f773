-- A choice by a test, in which every definition above is written: the tests stand in the order of the code's.
use Rattle.std.specs.Prelude.{Bool, true, false}

abbrev pub pick : {A : Type 0} → Bool → A → A → A
pick true a b = a
pick false a b = b
