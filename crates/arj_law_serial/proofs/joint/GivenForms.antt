-- Where operations are in form so is each value that a surviving call leaves.
use Rattle.arj_law_parts.proofs.Words
use Words.{◌≡◌, ◌+◌, ◌-◌, ◌<◌, ◌≤◌, ◌&&◌, ◌==◌, ℕ, Bool, true, false, cond, List, [], ◌∷◌, ◌++◌, length, is_some, nat_lt, if◌then◌else◌}
use Words.{refl, sym, subst, inl, inr, arith, nat_tests, length-append, PairsFit, ValueInForm, KeysRise, is_full_for}
use Words.{put_pair, value_after, writes, Op, Value, Line, In}
use Words.value
use Rattle.arj_law_serial.proofs.Terms
use Terms.{Placed, committed, recovered, Said, kept, Values, OpTextInForm, new_book, AreRight, State, Survives, AreCallsOf, said_on}
use Terms.machine
use Terms.state
use Rattle.arj_class.proofs.{Payloads.numbers_fit_append, Places.table_put, Places.table_remove}
use Rattle.arj_class.specs.Table.{behind_front, is_value_of, remove_pair}
use Rattle.arj_text.proofs.Values.{value_in_form}
use Rattle.arj_law_serial.proofs.order
use order.{Ties.Tie}
use order.Values.{ArePaired, IsMet, final, met_call, on_object, paired_in}
use Rattle.arj_model.specs.Calls.{said}
use Rattle.arj_class.specs.declared.op.Op.TheVariants as op

-- ---- what an operation leaves

one_in_form : (b : Bool) (v w : Value) → (b ≡ true → ValueInForm v) → ValueInForm w → ValueInForm (if b then v else w)
one_in_form true v w whole part = whole refl
one_in_form false v w whole part = part

sum_fits : (m n : ℕ) → nat_lt (m + n) 18446744073709551616 ≡ true → m + n < 18446744073709551616
sum_fits m n is = grind (arith, nat_tests, is)

room_for : (ns : List ℕ) (n : ℕ) → nat_lt (length ns) 32 ≡ true → length (ns ++ n ∷ []) ≤ 32
room_for ns n is = let less : length ns < 32 = grind (arith, nat_tests, is) in omega (arith, less, length-append ns (n ∷ []))

behind_in_form : (ns : List ℕ) → ValueInForm (value.Queue ns) → ValueInForm (value.Queue (behind_front ns))
behind_in_form [] form = form
behind_in_form (n ∷ ns) form = ((let l = form.0 in omega (arith, l)), form.1.1)

put_fits : (k v : ℕ) (ps : List (ℕ × ℕ)) → k < 18446744073709551616 → v < 18446744073709551616 → PairsFit ps → PairsFit (put_pair k v ps)
put_fits k v [] key is fit = (key, is, tt)
put_fits k v (p ∷ ps) key is fit = by (nat_lt k p.0) (p.0 == k) (put_fits k v ps key is fit.2)
  where
    by : (a b : Bool) → PairsFit (put_pair k v ps) →
        PairsFit (if a then (k, v) ∷ p ∷ ps else (if b then (k, v) ∷ ps else p ∷ put_pair k v ps))
    by true b rest = (key, is, fit)
    by false true rest = (key, is, fit.2)
    by false false rest = (fit.0, fit.1, rest)

remove_fits : (k : ℕ) (ps : List (ℕ × ℕ)) → PairsFit ps → PairsFit (remove_pair k ps)
remove_fits k [] fit = tt
remove_fits k (p ∷ ps) fit = by (p.0 == k) (remove_fits k ps fit.2)
  where
    by : (b : Bool) → PairsFit (remove_pair k ps) → PairsFit (if b then ps else p ∷ remove_pair k ps)
    by true rest = fit.2
    by false rest = (fit.0, fit.1, rest)

put_in_form : (k v : ℕ) (ps : List (ℕ × ℕ)) → k < 18446744073709551616 → v < 18446744073709551616 → ValueInForm (value.Table ps) →
    ValueInForm (value_after (op.PutPair k v) (value.Table ps))
put_in_form k v ps key is form = by (is_full_for k ps) (table_put k v ps form.0 form.1)
  where
    by : (b : Bool) → (let after = if b then ps else put_pair k v ps in (length after ≤ 16) × KeysRise after) →
        ValueInForm (if b then value.Table ps else value.Table (put_pair k v ps))
    by true put = form
    by false put = (put.0, put.1, put_fits k v ps key is form.2)

-- an operation in form leaves a value in form
pub after_in_form : (o : Op) (v : Value) → OpTextInForm o → ValueInForm v → ValueInForm (value_after o v)
after_in_form (op.Create w) (value.Gone c) fits form = one_in_form (is_value_of c w) w (value.Gone c) (λ is. value_in_form w fits.0) form
after_in_form op.Destroy (value.Gone c) fits form = form
after_in_form op.Destroy _ fits form = refl
after_in_form (op.Add n) (value.Counter m) fits form =
    one_in_form (nat_lt (m + n) 18446744073709551616) (value.Counter (m + n)) (value.Counter m) (sum_fits m n) form
after_in_form (op.Set n) (value.Counter m) fits form = fits
after_in_form (op.Put new) (value.Register bytes) fits form = fits.0
after_in_form (op.Deposit n) (value.Account m) fits form =
    one_in_form (nat_lt (m + n) 18446744073709551616) (value.Account (m + n)) (value.Account m) (sum_fits m n) form
after_in_form (op.Withdraw n) (value.Account m) fits form = one_in_form (nat_lt m n) (value.Account m) (value.Account (m - n)) (λ e. form)
    (let l : m < 18446744073709551616 = form in omega (arith, l))
after_in_form (op.Push n) (value.Queue ns) fits form = one_in_form (nat_lt (length ns) 32) (value.Queue (ns ++ n ∷ [])) (value.Queue ns)
    (λ is. (room_for ns n is, numbers_fit_append ns (n ∷ []) form.1 (fits, tt))) form
after_in_form op.Pop (value.Queue ns) fits form = behind_in_form ns form
after_in_form (op.PutPair k v) (value.Table ps) fits form = put_in_form k v ps fits.0 fits.1 form
after_in_form (op.Remove k) (value.Table ps) fits form = let r = table_remove k ps form.0 form.1 in (r.0, r.1, remove_fits k ps form.2)
after_in_form _ _ fits form = form

-- ---- what the calls of a journal leave

module _ (values : Values) (lines : List Line) (x : ℕ) (fits : (s : Placed Said) → In s (said lines) → (let i = s.it in i.x) ≡ x →
    OpTextInForm (let i = s.it in i.op)) (first : ValueInForm (values x)) where
  final_in_form : (p : ℕ) (ss : List (Placed Said)) → ((s : Placed Said) → In s ss → OpTextInForm (let i = s.it in i.op)) →
      ValueInForm (final values lines x p ss)
  final_in_form p [] each = first
  final_in_form p (s ∷ ss) each = by (nat_lt s.at p && (writes s.it.op && is_some (kept (committed lines) (recovered lines) s)))
      (final_in_form p ss (λ t i. each t (inr i)))
    where
      by : (b : Bool) → ValueInForm (final values lines x p ss) →
          ValueInForm (cond b (value_after s.it.op (final values lines x p ss)) (final values lines x p ss))
      by true k = after_in_form s.it.op (final values lines x p ss) (each s (inl refl)) k
      by false k = k

  module _ (right : AreRight new_book lines) (S : State) (tied : Tie values lines x S) where
    -- each call of the machine has its own in the journal
    pair_of : (ss : List (Placed Said)) (cs : List state.Call) → AreCallsOf tied.act tied.code ss cs → (c : state.Call) → machine.In c cs →
        (s : Placed Said) × ArePaired values lines right x S tied s c ss cs
    pair_of [] [] are c i = absurd i
    pair_of [] (d ∷ cs) are c i = absurd are
    pair_of (s ∷ ss) [] are c i = absurd are
    pair_of (s ∷ ss) (d ∷ cs) are c (inl same) = (s, inl (refl, sym same))
    pair_of (s ∷ ss) (d ∷ cs) are c (inr i) = let r = pair_of ss cs are.1 c i in (r.0, inr r.1)

    -- a surviving call left such a value
    pub left_in_form : (c : state.Call) → machine.In c S.calls → Survives S c.act →
        (v : Value) × ValueInForm v × (c.gives ≡ tied.code v (machine.top c.act))
    left_in_form c i survives =
        let p = pair_of (said_on x lines) S.calls tied.calls c i in
        let there = (paired_in values lines right x S tied (said_on x lines) S.calls tied.calls p.0 c p.1).0 in
        let o = on_object x lines p.0 there in
        let m : IsMet values lines right x S tied p.0 c (said_on x lines) = met_call values lines right x S tied p.0 c p.1 survives in
        let k = m.is in
        let met : ValueInForm k.value = subst ValueInForm m.met
        (final_in_form (let s = p.0 in s.at) (said_on x lines) (λ s j. let q = on_object x lines s j in fits s q.0 q.1)) in (
          value_after (let s = p.0 in s.it.op) k.value,
          after_in_form (let s = p.0 in s.it.op) k.value (fits p.0 o.0 o.1) met,
          k.gives,
        )
