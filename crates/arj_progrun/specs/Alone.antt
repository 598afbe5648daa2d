-- What the calls of a program that committed are, run alone.
use Rattle.std.specs.Prelude.{◌≡◌, List, [], ◌∷◌, ⊤}
use Rattle.arj_class.specs.Table.{answer_of}
use Rattle.arj_model.specs.Serial.{Values}
use Rattle.arj_prog.specs.Listing.{Listing}
use Rattle.arj_prog.specs.Meaning.{Gave, Made, eval, made, values_behind, with_calls}
use Rattle.arj_progrun.specs.Client.{Client, Said}
use Rattle.arj_progrun.specs.declared.phase.Phase.TheVariants as phase
use Rattle.arj_text.specs.Words.{answer_text}

-- the calls, run one after another from these values, give these answers
abbrev pub Answered : Values → List Said → Type 0
Answered values [] = ⊤
Answered values (s ∷ ss) = (answer_text (answer_of s.op (values s.x)) ≡ s.answer) × Answered (values_behind values s.x s.op) ss

-- the values behind them
abbrev pub after_all : Values → List Said → Values
after_all values [] = values
after_all values (s ∷ ss) = after_all (values_behind values s.x s.op) ss

-- the same calls, as statements make them from these values
abbrev pub made_from : Values → List Said → List Made
made_from values [] = []
made_from values (s ∷ ss) = made values s.x s.op s.printed ∷ made_from (values_behind values s.x s.op) ss

-- From any values at which these calls give their answers, the statements make these calls, and then do what these others do.
abbrev pub Reaches : Listing → List Said → Listing → Type 0
Reaches body said rest = (values : Values) → Answered values said →
    eval body values ≡ with_calls (made_from values said) (eval rest (after_all values said))

-- From any values at which these calls give their answers, the statements make these calls and nothing else, and don't fail.
abbrev pub Means : Listing → List Said → Type 0
Means body said = (values : Values) → Answered values said → eval body values ≡ Gave (made_from values said) (after_all values said)

-- the program has committed: its calls are what its statements make where they run alone
abbrev pub MeansItsCalls : Client → Type 0
MeansItsCalls c = c.phase ≡ phase.Committed → let t = c.top in Means t.body t.said
