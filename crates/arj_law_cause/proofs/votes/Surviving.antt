-- A call that writes, where the lock machine has committed each action between it and its top, is a surviving write of that top by the
-- journal to which the machine is tied.
use Rattle.arj_law_parts.proofs.Words
use Words.{◌≡◌, ◌∙◌, ◌⊎◌, ℕ, ◌==◌, ◌&&◌, List, [], ◌∷◌, Bool, true, false, Option, Some, None, refl, sym, ap, subst, inl, inr}
use Words.{cons_option, eq-eqb}
use Words.{filter_map, list_all, Line, In, in_to, is_serial}
use Rattle.arj_law_serial.proofs.Terms
use Terms.{Act, Placed, Said, Values, acts, chain_in, committed, has_end, is_top, new_book, top_in, call_of, AreCallsOf, AreRight, AreSound}
use Terms.{IsCallOf, IsTied, above_top, by_cases, differ, is_action, its_sound, on, one_act, path_of, said_on, top, top_of, State}
use Terms.machine
use Terms.state
use Rattle.arj_law_lock.specs.machine.State.{Merged}
use Rattle.arj_law_serial.proofs.order
use order.{Locks.tie, Paths.chain_on, Paths.top_on, Ties.Tie}
use order.Order.{is_top_in}
use order.Tying.{IsMade, acts_are, chain_nested, made, member, nested_end, on_it, shape_of}
use order.Values.{on_object, to_filter}
use Rattle.arj_model.specs.Calls.{Call, ids, made as made_calls, made_by, made_in, said, surviving}
use Rattle.arj_model.specs.CausePends.{has_written}
use Rattle.arj_model.specs.Serial.{writes_on}
use Rattle.arj_law_cause.proofs.waits.waiting.Lists.{any_in}

pub made_of : {A B : Type 0} (f : A → Option B) (x : A) (y : B) (xs : List A) → In x xs → f x ≡ Some y → In y (filter_map f xs)
made_of f x y [] i e = absurd i
made_of f x y (z ∷ xs) (inl is) e = subst (λ o. In y (cons_option o (filter_map f xs))) (sym (ap f is ∙ e)) (inl refl)
made_of {A} {B} f x y (z ∷ xs) (inr i) e = by (f z) (made_of f x y xs i e)
  where
    by : (o : Option B) → In y (filter_map f xs) → In y (cons_option o (filter_map f xs))
    by None j = j
    by (Some w) j = inr j

pub all_ids : (p : ℕ → Bool) (path : List Act) → ((b : Act) → In b path → p b.id ≡ true) → list_all p (ids path) ≡ true
all_ids p [] each = refl
all_ids p (a ∷ path) each = λ i. each a (inl refl) i && all_ids p path (λ b j. each b (inr j)) i

module _ (values : Values) (lines : List Line) (right : AreRight new_book lines) (x : ℕ) (S : State) (t : IsTied values lines x S) where
  abbrev its : Tie values lines x S
  its = tie values lines right x S t

  sound : AreSound (acts lines)
  sound = its_sound lines right

  -- the line of a call
  line_of : (ss : List (Placed Said)) (cs : List state.Call) → AreCallsOf t.act t.code ss cs → (c : state.Call) → machine.In c cs →
      (s : Placed Said) × In s ss × IsCallOf t.act t.code s c
  line_of [] [] are c i = absurd i
  line_of [] (d ∷ cs) are c i = absurd are
  line_of (s ∷ ss) [] are c i = absurd are
  line_of (s ∷ ss) (d ∷ cs) are c (inl is) = (s, inl refl, subst (IsCallOf t.act t.code s) (sym is) are.0)
  line_of (s ∷ ss) (d ∷ cs) are c (inr i) = let r = line_of ss cs are.1 c i in (r.0, inr r.1, r.2)

  module _ (a : Act) (there : In a (acts lines)) (c : state.Call) (called : machine.In c S.calls) (write : c.write ≡ true)
      (of_it : top c.act ≡ t.act a.uid) (merged : Merged S c.act (t.act a.uid)) where
    line : (s : Placed Said) × In s (said_on x lines) × IsCallOf t.act t.code s c
    line = line_of (said_on x lines) S.calls (let l = t.tied in l.calls) c called

    abbrev s : Placed Said
    s = line.0

    object : In line.0 (said lines) × (line.0.it.x ≡ x)
    object = on_object x lines line.0 line.1

    k : IsMade values lines right x S its line.0 c
    k = made values lines right x S its line.0 c object.0 called line.2

    top_kind : is_top k.top.kind ≡ true
    top_kind = let h = shape_of lines right k.maker in h.tops k.top k.top_is

    top_act : machine.is_top (t.act k.top.uid) ≡ true
    top_act = is_top_in values lines right x S its k.top k.top_there top_kind

    top_of_call : top c.act ≡ t.act k.top.uid
    top_of_call = top_of c.act (t.act k.top.uid) top_act (ap (λ z. on z (t.act k.top.uid)) k.caller
        ∙ on_it values lines right x S its k.maker k.top k.there (top_on (path_of lines k.maker) k.top k.top_is))

    same_top : k.top ≡ a
    same_top = one_act (acts lines) sound.distinct k.top a k.top_there there
        (let q = t.places in q.one k.top a (in_to k.top (acts lines) k.top_there) (in_to a (acts lines) there) (sym top_of_call ∙ of_it))

    -- each action below the top is committed
    below : (b : Act) → In b (chain_in (path_of lines k.maker)) → has_end (committed lines) b.id ≡ true
    below b j =
        let e = (let l = t.tied in l.ends) b (in_to b (acts lines) b_there) nested.1 in
        nested_end lines right b b_there nested.0 (e.only (merged (t.act b.uid) (ap (λ z. on z (t.act b.uid)) k.caller
        ∙ on_it values lines right x S its k.maker b k.there on_path) (off (by_cases (on (t.act a.uid) (t.act b.uid)))))).0
      where
        nested : (is_top b.kind ≡ false) × (is_serial b.kind ≡ false)
        nested = chain_nested lines right k.maker b j

        on_path : In b (path_of lines k.maker)
        on_path = chain_on (path_of lines k.maker) b j

        b_there : In b (acts lines)
        b_there = member values lines right x S its k.maker b on_path

        its_top : machine.is_top (t.act a.uid) ≡ true
        its_top = subst (λ (z : Act). machine.is_top (t.act z.uid) ≡ true) same_top top_act

        off : (on (t.act a.uid) (t.act b.uid) ≡ true) ⊎ (on (t.act a.uid) (t.act b.uid) ≡ false) →
            on (t.act a.uid) (t.act b.uid) ≡ false
        off (inr is) = is
        off (inl is) = elim (above_top (t.act a.uid) (t.act b.uid) its_top is) [
          | inl same ↦ differ (ap (λ (z : Act). is_top z.kind) (one_act (acts lines) sound.distinct b a b_there there
              (let q = t.places in q.one b a (in_to b (acts lines) b_there) (in_to a (acts lines) there) same))
              ∙ subst (λ (z : Act). is_top z.kind ≡ true) same_top top_kind) nested.0
          | inr root ↦ differ (acts_are values lines right x S its b b_there nested.1) (ap is_action root)
        ]

    abbrev call : Call
    call = call_of line.0 k.top

    survivor : In (call_of line.0 k.top) (surviving lines a.id)
    survivor =
        to_filter (λ (z : Call). list_all (has_end (committed lines)) z.chain) (call_of line.0 k.top) (made_by lines a.id)
        (to_filter (λ (z : Call). z.top == a.id) (call_of line.0 k.top) (made_calls lines)
        (made_of (λ (z : Placed Said). made_in z (top_in z.it.path)) line.0 (call_of line.0 k.top) (said lines) object.0
        (ap (made_in line.0) (ap top_in k.path_is ∙ k.top_is))) (eq-eqb k.top.id a.id (ap (λ (z : Act). z.id) same_top)))
        (ap (λ (p : List Act). list_all (has_end (committed lines)) (ids (chain_in p))) k.path_is
        ∙ all_ids (has_end (committed lines)) (chain_in (path_of lines k.maker)) below)

    pub merged_written : has_written lines a.id x ≡ true
    merged_written = any_in (writes_on x) (surviving lines a.id) (call_of line.0 k.top) survivor
        (λ j. eq-eqb line.0.it.x x object.1 j && (sym (let l = line.2 in l.write) ∙ write) j)
