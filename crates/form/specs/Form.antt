-- What the bytes of an action ask: one of the nine actions, or a refusal. Assumes nothing.
use Rattle.std.specs.Prelude.{ℕ, List, ◌∷◌, get_or, Result, Ok, Err}
use Rattle.words.specs.Refusal.{Refusal, refuse, first, given, unless_refused}
use Rattle.algorithm.specs.declared.Refused.{Refused}
use Rattle.algorithm.specs.declared.Refused.TheVariants.{Unknown}
use Rattle.algorithm.specs.Bytes.{kind_of, i_of, j_of, set_of, bake_of, Action, unknown, elect, reconfigure, send, spread, write, fetch, roll_back, commit, stretch, kinds, action_of}
use Rattle.algorithm.specs.Run.{refused_of, stray_zero, unknown_kind, field_refusals, form_refusals}
use Rattle.form.specs.declared.Asked.{Asked}
use Rattle.form.specs.declared.Asked.TheVariants.{Elect, Reconfigure, Send, Spread, Write, Fetch, RollBack, Commit, Stretch}
use Rattle.form.specs.declared.Fields.{Fields}

-- the action that is asked for
abbrev pub named : Asked → Action
named (Elect i Q) = elect i Q
named (Reconfigure i M) = reconfigure i M
named (Send i j) = send i j
named (Spread i j) = spread i j
named (Write i B) = write i B
named (Fetch i j) = fetch i j
named (RollBack i j) = roll_back i j
named (Commit i Q) = commit i Q
named (Stretch i j c) = stretch i j c

-- what an action asks; an unknown one has refusal 2
abbrev pub asks : Action → Result Asked Refused
asks unknown = Err Unknown
asks (elect i Q) = Ok (Elect i Q)
asks (reconfigure i M) = Ok (Reconfigure i M)
asks (send i j) = Ok (Send i j)
asks (spread i j) = Ok (Spread i j)
asks (write i B) = Ok (Write i B)
asks (fetch i j) = Ok (Fetch i j)
asks (roll_back i j) = Ok (RollBack i j)
asks (commit i Q) = Ok (Commit i Q)
asks (stretch i j c) = Ok (Stretch i j c)

-- the first of the refusals where one holds, and f otherwise
abbrev pub form_by : List Refusal → Result Asked Refused → Result Asked Refused
form_by rs f = unless_refused (first rs) f (Err (refused_of (given rs)))

-- what the bytes ask, beside a table of n servers
abbrev pub form_of : ℕ → List ℕ → Result Asked Refused
form_of n bs = form_by (form_refusals n bs) (asks (action_of bs))

-- ---- the code's struct

-- the fields that the bytes have
abbrev pub fields_of : List ℕ → Fields
fields_of bs = record { kind = kind_of bs; i = i_of bs; j = j_of bs; set = set_of bs; bake = bake_of bs; stray = stray_zero bs }

-- the action that the fields name
abbrev pub action_by : Fields → Action
action_by f = get_or (kinds f.i f.j f.set f.bake) f.kind unknown

-- 3 to 5 of the fields
abbrev pub refusals_of : ℕ → Fields → List Refusal
refusals_of n f = field_refusals n f.stray f.kind f.i f.j f.set

-- 2 to 5 of the fields of eight bytes
abbrev pub eight_refusals : ℕ → Fields → List Refusal
eight_refusals n f = refuse 2 (unknown_kind f.kind) ∷ refusals_of n f
