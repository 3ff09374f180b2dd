-- Every worked case gives what it must, by computation. Assumes nothing.
use mathlib.Core.List.{map, flatten}
use mathlib.Core.Path.{◌≡◌, refl}
use lib.Count.{ones}
use Rattle.members.specs.Members.{mask, lowest_from}
use Rattle.members.specs.Rules.{old_apart, new_apart}
use Rattle.words.specs.Lists.{nth, replace, every}
use Rattle.algorithm.specs.Table.{broken, prefix}
use Rattle.algorithm.specs.Actions.{voters_from, some_marked, holds_marked, fetches}
use Rattle.algorithm.specs.Run.{replies_bytes, refusals, after, step, pieces, play, brought_by, along, bakes_of}
use Rattle.words.specs.Refusal.{first, first_shown}
use Rattle.algorithm.specs.Cases.{cases, changes, floors, bakes}

pub cases-hold : map (λ k. k.gives) cases ≡ map (λ k. k.expected) cases
unfolding cases ones mask nth replace every broken prefix voters_from refusals first after step pieces play
cases-hold = refl

pub changes-hold : map (λ k. k.gives) changes ≡ map (λ k. k.expected) changes
unfolding changes ones mask old_apart new_apart lowest_from nth replace every broken some_marked holds_marked refusals first first_shown after step pieces play replies_bytes flatten
changes-hold = refl

pub floors-hold : map (λ k. k.gives) floors ≡ map (λ k. k.expected) floors
unfolding floors ones mask old_apart new_apart lowest_from nth replace every broken some_marked holds_marked voters_from refusals first first_shown after step pieces play replies_bytes flatten
floors-hold = refl

pub bakes-hold : map (λ k. k.gives) bakes ≡ map (λ k. k.expected) bakes
unfolding bakes ones mask nth replace every broken voters_from fetches refusals first after step pieces play brought_by along bakes_of
bakes-hold = refl
