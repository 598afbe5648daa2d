-- Operations and values, and their texts.
use Rattle.std.proofs.Common.{◌≡◌, ◌≢◌, ℕ, ◌<◌, List, [], ◌∷◌, ◌++◌, codes, true, false, None, refl, sym, ◌∙◌, arith}
use Rattle.std.specs.List.{AllByRecursion}
use Rattle.std.proofs.lemmas.Bool.{and_parts, both_ways, ltb-true}
use Rattle.arj_class.specs.declared.limits.TheConstants.{REGISTER_BYTES}
use Rattle.arj_class.specs.declared.op.Op.{Op}
use Rattle.arj_class.specs.declared.op.Op.TheVariants as op
use Rattle.arj_class.specs.declared.value.Value.{Value}
use Rattle.arj_class.specs.declared.value.Value.TheVariants as value
use Rattle.arj_class.specs.Forms.{NumbersFit, OpInForm, PairsFit, ValueInForm}
use Rattle.arj_class.specs.Keys.{KeysAbove, KeysRise}
use Rattle.arj_class.specs.Table.{class_of, is_gone, is_value_of}
use Rattle.arj_text.specs.Words.{op_text, value_text, hex}
use Rattle.arj_text.specs.Fields.{IsRead, NumberInForm, AreBytesUpTo, PairInForm, OpTextInForm, ValueTextInForm, IsCreateOp, IsPutOp, IsThere, is_below_first}
use Rattle.arj_text.specs.Fields.{is_create_op, is_put_op, is_rising, two_text}
use Rattle.arj_text.proofs.Texts.{same_rest}

-- A put has one argument or two.
pub no_put : (bytes arguments : List ℕ) → bytes ≡ codes "put " ++ arguments → IsRead (AreBytesUpTo REGISTER_BYTES) hex arguments None →
    IsRead PairInForm two_text arguments None → IsRead IsPutOp op_text bytes None
no_put bytes arguments whole no_bytes no_pair = λ o h e. cases o h.0 h.1 e
  where
    cases : (o : Op) → OpTextInForm o → is_put_op o ≡ true → bytes ≢ op_text o
    cases (op.Put bs) fits put e = no_bytes bs fits (same_rest (codes "put ") arguments (hex bs) (sym whole ∙ e))
    cases (op.PutPair k v) fits put e = no_pair (k, v) fits (same_rest (codes "put ") arguments (two_text (k, v)) (sym whole ∙ e))
    cases _ fits put e = both_ways false refl put

-- An object comes with a value that is there.
pub no_create : (bytes words : List ℕ) → bytes ≡ codes "create " ++ words → IsRead IsThere value_text words None →
    IsRead IsCreateOp op_text bytes None
no_create bytes words whole none = λ o h e. cases o h.0 h.1 e
  where
    cases : (o : Op) → OpTextInForm o → is_create_op o ≡ true → bytes ≢ op_text o
    cases (op.Create v) fits create e = none v fits (same_rest (codes "create ") words (value_text v) (sym whole ∙ e))
    cases _ fits create e = both_ways false refl create

-- Keys that rise from one to the next rise from each to all behind it.
above_more : (k m : ℕ) (ps : List (ℕ × ℕ)) → k < m → KeysAbove m ps → KeysAbove k ps
above_more k m [] low above = tt
above_more k m (p ∷ ps) low above = (omega (arith, low, above.0), above_more k m ps low above.1)

pub keys_rise : (ps : List (ℕ × ℕ)) → is_rising ps ≡ true → KeysRise ps
keys_rise [] h = tt
keys_rise (p ∷ []) h = (tt, tt)
keys_rise (p ∷ q ∷ ps) h =
    let parts = and_parts (is_below_first p.0 (q ∷ ps)) (is_rising (q ∷ ps)) h in
    let low : p.0 < q.0 = ltb-true p.0 q.0 parts.0 in
    let rest = keys_rise (q ∷ ps) parts.1 in
    ((low, above_more p.0 q.0 ps low rest.0), rest)

numbers_fit : (ns : List ℕ) → AllByRecursion NumberInForm ns → NumbersFit ns
numbers_fit [] all = tt
numbers_fit (n ∷ ns) all = (all.0, numbers_fit ns all.1)

pairs_fit : (ps : List (ℕ × ℕ)) → AllByRecursion PairInForm ps → PairsFit ps
pairs_fit [] all = tt
pairs_fit (p ∷ ps) all = (all.0.0, all.0.1, pairs_fit ps all.1)

pub value_in_form : (v : Value) → ValueTextInForm v → ValueInForm v
value_in_form (value.Counter n) h = h
value_in_form (value.Register bytes) h = h.0
value_in_form (value.Account n) h = h
value_in_form (value.Queue ns) h = (h.0, numbers_fit ns h.1)
value_in_form (value.Table ps) h = (h.0, keys_rise ps h.2, pairs_fit ps h.1)
value_in_form (value.Gone c) h = h

-- What a text can say is in form.
pub op_in_form : (o : Op) → OpTextInForm o → OpInForm o
op_in_form (op.Put bytes) h = h.0
op_in_form (op.Create v) h = (value_in_form v h.0, there v h.1)
  where
    there : (v : Value) → is_gone v ≡ false → is_value_of (class_of v) v ≡ true
    there (value.Gone c) gone = cc
    there _ gone = refl
op_in_form _ h = tt
