-- What holds of a program between lines: the calls that it has heard are those that the journal has.
use Rattle.std.proofs.Common.{◌≡◌, ◌∙◌, ◌<◌, ◌≤◌, ◌⊎◌, inl, inr, ℕ, ◌+◌, List, [], ◌∷◌, ◌++◌, length, map, refl, ap, sym, subst, arith}
use Rattle.std.proofs.Common.{true, false}
use Rattle.std.proofs.Common.{Bool, Option, Some, None, cond, ◌&&◌, ◌||◌, ◌==◌, if◌then◌else◌}
use Rattle.std.proofs.lemmas.Bool.Decides.{nat_tests}
use Rattle.std.specs.Prelude.{⊤, nat_lt}
use Rattle.std.specs.List.{AllByRecursion}
use Rattle.std.specs.Option.{option_map}
use Rattle.std.specs.Str.{bytes_eq}
use Rattle.std.proofs.lemmas.List.{map-append}
use Rattle.arj_class.specs.declared.op.Op.{Op}
use Rattle.arj_journal.specs.declared.body.Line.{Line}
use Rattle.arj_journal.specs.declared.event.Event.{Event}
use Rattle.arj_journal.specs.declared.event.Event.TheVariants as event
use Rattle.arj_model.specs.Actions.{Act, Placed, act_in, has_end, id_in, path, top_in}
use Rattle.arj_model.specs.Calls.{Said}
use Rattle.arj_model.specs.Follows.{IsCallOf}
use Rattle.arj_model.specs.Past.{Asked}
use Rattle.arj_model.specs.Refusals.{answers_to, asks_by, has_ended, last_asked, waits_for}
use Rattle.arj_prog.specs.declared.statements.Statement.{Statement}
use Rattle.arj_prog.specs.declared.statements.Statement.TheVariants as statement
use Rattle.arj_progrun.specs.Client.{Calls, Client, Level, Said as heard_call, inner_of, is_phase, said_by, taken}
use Rattle.arj_progrun.specs.Events.{ask_of}
use Rattle.arj_progrun.specs.declared.phase.Phase.{Phase}
use Rattle.arj_progrun.specs.declared.phase.Phase.TheVariants as phase
use Rattle.arj_law_programs.proofs.Labels.{IsOf, one_of}
use Rattle.arj_law_programs.proofs.Acts.{IsOwn, IsOwnBelow, IsOwnPath, path_named, path_own}
use Rattle.arj_law_programs.proofs.Acts.{same_act, same_label}
use Rattle.arj_law_programs.proofs.Keeping.{Mark, Open, Stack, chain_of, inner_mark, is_top, open_more, open_other_call}
use Rattle.arj_law_programs.proofs.Keeping.{top_there, with_call}
use Rattle.arj_law_programs.proofs.Turning.{IsApart, has_more, its_top, open_apart}
use Rattle.arj_law_programs.proofs.Views.{Sound, View}
use Rattle.arj_law_programs.specs.Counts.{Told, told_by}

-- ---- definitions

-- the accepted calls and includes of each action, and how many were answered
abbrev pub Asks : Type 0
Asks = List ℕ → List Asked

abbrev pub Counted : Type 0
Counted = List ℕ → ℕ

-- an action of a program as a mark
abbrev pub mark_of : Level → Mark
mark_of l = record { label = l.label; said = map told_by l.said }

-- its innermost action is to begin, or was asked to
abbrev pub begins_now : Phase → Bool
begins_now phase.Entering = true
begins_now phase.Beginning = true
begins_now p = false

abbrev pub IsOpen : View → Mark → List Mark → Type 0
IsOpen v top bs = (t : Act) × (below : List Act) × Open v top t below bs

-- its actions are open in the journal, but for the innermost where that is to begin
abbrev pub Opens : Bool → View → Mark → List Mark → Type 0
Opens false v top bs = IsOpen v top bs
Opens true v top [] = top.said ≡ []
Opens true v top (b ∷ bs) = (b.said ≡ []) × IsOpen v top bs

-- a call is under way
abbrev pub pending : Phase → List ℕ → List ℕ → ℕ
pending phase.Calling m l = if bytes_eq m l then 1 else 0
pending p m l = 0

abbrev pub AsksFor : heard_call → List ℕ → Event → Type 0
AsksFor r m e = ask_of e ≡ Calls m r.x r.op

-- it is the one that was asked last
abbrev pub CallsSo : Phase → Asks → List ℕ → Option Statement → Type 0
CallsSo phase.Calling asks m o =
    (s : Statement) × (a : Asked) × (o ≡ Some s) × (last_asked (asks m) ≡ Some a) × AsksFor (said_by s []) m a.event
CallsSo p asks m o = ⊤

abbrev pub end_in : List (Placed ℕ) → Option ℕ → Bool
end_in ends None = false
end_in ends (Some n) = has_end ends n

-- where it has committed the journal has its top's commit
abbrev pub IsDone : Phase → View → Mark → List Mark → Type 0
IsDone phase.Committed v top bs = (bs ≡ []) × (end_in v.ends (id_in v.acts top.label) ≡ true)
IsDone p v top bs = ⊤

-- What holds of a program that may commit.
pub record Tracks (v : View) (asks : Asks) (ans : Counted) (p : Phase) (i : ℕ) (o : Option Statement) (top : Mark)
    (bs : List Mark) : Type 0 where
  pub label : IsOf i top.label
  pub labels : AllByRecursion (λ (b : Mark). IsOf i b.label) bs
  pub opens : Opens (begins_now p) v top bs
  pub slack : (l : List ℕ) → IsOf i l → length (asks l) ≤ ans l + pending p (let m = inner_mark top bs in m.label) l
  pub calls : CallsSo p asks (let m = inner_mark top bs in m.label) o
  pub done : IsDone p v top bs

abbrev pub HoldsAt : Phase → View → Asks → Counted → ℕ → Option Statement → Mark → List Mark → Type 0
HoldsAt phase.Failing v asks ans i o top bs = ⊤
HoldsAt phase.Failed v asks ans i o top bs = ⊤
HoldsAt phase.GaveUp v asks ans i o top bs = ⊤
HoldsAt p v asks ans i o top bs = Tracks v asks ans p i o top bs

abbrev pub Holds : View → Asks → Counted → Client → Type 0
Holds v asks ans c = HoldsAt c.phase v asks ans c.number c.asked (mark_of c.top) (map mark_of c.blocks)

-- ---- small facts

pub inner_same : (top : Level) (bs : List Level) →
    (let m = inner_mark (mark_of top) (map mark_of bs) in m.label) ≡ (let l = inner_of top bs in l.label)
inner_same top [] = refl
inner_same top (b ∷ bs) = refl

pub inner_label : (i : ℕ) (top : Mark) (bs : List Mark) → IsOf i top.label → AllByRecursion (λ (b : Mark). IsOf i b.label) bs →
    IsOf i (let m = inner_mark top bs in m.label)
inner_label i top [] of all = of
inner_label i top (b ∷ bs) of all = all.0

-- a program that may commit stays so, where all that it stands on does
pub lifted : (p : Phase) (v w : View) (asks more : Asks) (ans bns : Counted) (i : ℕ) (o : Option Statement) (top : Mark) (bs : List Mark) →
    (Tracks v asks ans p i o top bs → Tracks w more bns p i o top bs) → HoldsAt p v asks ans i o top bs → HoldsAt p w more bns i o top bs
lifted phase.Failing v w asks more ans bns i o top bs f h = tt
lifted phase.Failed v w asks more ans bns i o top bs f h = tt
lifted phase.GaveUp v w asks more ans bns i o top bs f h = tt
lifted _ v w asks more ans bns i o top bs f h = f h

opens_map : (b : Bool) (v w : View) (i : ℕ) (top : Mark) (bs : List Mark) → AllByRecursion (λ (b : Mark). IsOf i b.label) bs →
    ((cs : List Mark) → AllByRecursion (λ (b : Mark). IsOf i b.label) cs → IsOpen v top cs → IsOpen w top cs) →
    Opens b v top bs → Opens b w top bs
opens_map false v w i top bs all f o = f bs all o
opens_map true v w i top [] all f o = o
opens_map true v w i top (b ∷ bs) all f o = (o.0, f bs all.1 o.1)

done_map : (p : Phase) (v w : View) (top : Mark) (bs : List Mark) →
    (IsOpen v top bs → end_in v.ends (id_in v.acts top.label) ≡ true → end_in w.ends (id_in w.acts top.label) ≡ true) →
    Opens (begins_now p) v top bs → IsDone p v top bs → IsDone p w top bs
done_map phase.Committed v w top bs f o d = (d.0, f o d.1)
done_map phase.Entering v w top bs f o d = tt
done_map phase.Beginning v w top bs f o d = tt
done_map _ v w top bs f o d = tt

-- the journal goes on, and the program stays
pub tracks_on : (v w : View) (asks : Asks) (ans bns : Counted) (p : Phase) (i : ℕ) (o : Option Statement) (top : Mark) (bs : List Mark) →
    (IsOf i top.label → (cs : List Mark) → AllByRecursion (λ (b : Mark). IsOf i b.label) cs → IsOpen v top cs → IsOpen w top cs) →
    (IsOpen v top bs → end_in v.ends (id_in v.acts top.label) ≡ true → end_in w.ends (id_in w.acts top.label) ≡ true) →
    ((l : List ℕ) → ans l ≤ bns l) → Tracks v asks ans p i o top bs → Tracks w asks bns p i o top bs
tracks_on v w asks ans bns p i o top bs f g h t = record {
  label = t.label;
  labels = t.labels;
  opens = opens_map (begins_now p) v w i top bs t.labels (f t.label) t.opens;
  slack = λ l of. let s = t.slack l of in let m = h l in omega (arith, s, m);
  calls = t.calls;
  done = done_map p v w top bs g t.opens t.done;
}

-- ---- the top and what is below it

pub own_top : (v : View) → Sound v → (i : ℕ) (t : Act) (top : Mark) (below : List Act) (bs : List Mark) → IsOf i top.label →
    Stack v.acts t top below bs → IsOwn v.acts i t × ((j : ℕ) → IsOf j t.label → j ≡ i)
own_top v sound i t top [] [] of s =
    let own : IsOwnPath v.acts i (t ∷ []) = subst (IsOwnPath v.acts i) s (path_own v.acts sound.good i top.label of) in
    (own.0, λ j is. one_of j i t.label is (let o = own.0 in o.label))
own_top v sound i t top (a ∷ below) (b ∷ bs) of s = own_top v sound i t top below bs of s.1
own_top v sound i t top [] (b ∷ bs) of s = absurd s
own_top v sound i t top (a ∷ below) [] of s = absurd s

last_all : {A : Type 0} (P : A → Type 0) (xs : List A) (a : A) → AllByRecursion P (xs ++ a ∷ []) → P a
last_all P [] a all = all.0
last_all P (x ∷ xs) a all = last_all P xs a all.1

pub own_below : (v : View) → Sound v → (i : ℕ) (t : Act) (top : Mark) (below : List Act) (bs : List Mark) →
    AllByRecursion (λ (b : Mark). IsOf i b.label) bs → Stack v.acts t top below bs → AllByRecursion (IsOwnBelow v.acts i) below
own_below v sound i t top [] [] all s = tt
own_below v sound i t top (a ∷ below) (b ∷ bs) all s =
    let own : IsOwnPath v.acts i (t ∷ (chain_of below ++ a ∷ [])) =
    subst (IsOwnPath v.acts i) s.0 (path_own v.acts sound.good i b.label all.0) in
    (last_all (IsOwnBelow v.acts i) (chain_of below) a own.1, own_below v sound i t top below bs all.1 s.1)
own_below v sound i t top [] (b ∷ bs) all s = absurd s
own_below v sound i t top (a ∷ below) [] all s = absurd s

-- ---- the journal goes on, and nothing of it is the program's

pub begun_elsewhere : (v : View) (u : Act) (asks : Asks) (ans bns : Counted) (p : Phase) (i : ℕ) (o : Option Statement) (top : Mark)
    (bs : List Mark) → act_in v.acts u.label ≡ None → ((l : List ℕ) → ans l ≤ bns l) → Tracks v asks ans p i o top bs →
    Tracks (record v { acts = u ∷ v.acts }) asks bns p i o top bs
begun_elsewhere v u asks ans bns p i o top bs new h t =
    tracks_on v (record v { acts = u ∷ v.acts }) asks ans bns p i o top bs
    (λ of cs all op. (op.0, op.1, open_more v u op.0 top op.1 cs new op.2))
    (λ op holds. ap (end_in v.ends) (same_id op) ∙ holds) h t
  where
    same_id : IsOpen v top bs → id_in (u ∷ v.acts) top.label ≡ id_in v.acts top.label
    same_id (t, below, op) = by (bytes_eq u.label top.label) refl
      where
        by : (b : Bool) → bytes_eq u.label top.label ≡ b →
            option_map (λ (a : Act). a.id) (cond b (Some u) (act_in v.acts top.label)) ≡ id_in v.acts top.label
        by false fails = refl
        by true holds =
            let never : None ≡ Some t =
            sym new ∙ ap (act_in v.acts) (same_label u.label top.label holds)
            ∙ top_there v.acts t top below bs op.stack in absurd (cc never)

pub ended_elsewhere : (v : View) → Sound v → (e : Placed ℕ) (asks : Asks) (ans bns : Counted) (p : Phase) (i : ℕ) (o : Option Statement)
    (top : Mark) (bs : List Mark) → IsApart v.acts i e.it → ((l : List ℕ) → ans l ≤ bns l) → Tracks v asks ans p i o top bs →
    Tracks (record v { ends = v.ends ++ e ∷ [] }) asks bns p i o top bs
ended_elsewhere v sound e asks ans bns p i o top bs apart h t =
    tracks_on v (record v { ends = v.ends ++ e ∷ [] }) asks ans bns p i o top bs
    (λ of cs all op. (op.0, op.1, open_here of cs all op.0 op.1 op.2)) (λ op holds. end_more (id_in v.acts top.label) holds) h t
  where
    open_here : IsOf i top.label → (cs : List Mark) → AllByRecursion (λ (b : Mark). IsOf i b.label) cs → (r : Act) (below : List Act) →
        Open v top r below cs → Open (record v { ends = v.ends ++ e ∷ [] }) top r below cs
    open_here of cs all r below op =
        let own = own_top v sound i r top below cs of op.stack in
        open_apart v sound i r own.0 e top below cs own.1 (own_below v sound i r top below cs all op.stack) apart op

    end_more : (n : Option ℕ) → end_in v.ends n ≡ true → end_in (v.ends ++ e ∷ []) n ≡ true
    end_more None holds = holds
    end_more (Some n) holds = has_more v.ends e n ∙ (λ j. holds j || (e.it == n))

pub called_elsewhere : (v : View) (s : Placed Said) (asks : Asks) (ans bns : Counted) (p : Phase) (i : ℕ) (o : Option Statement)
    (top : Mark)
    (bs : List Mark) → ((t : Act) (below : List Act) (cs : List Mark) → IsOf i top.label → Stack v.acts t top below cs →
    is_top t.id (top_in s.it.path) ≡ false) →
    ((l : List ℕ) → ans l ≤ bns l) → Tracks v asks ans p i o top bs →
    Tracks (record v { said = v.said ++ s ∷ [] }) asks bns p i o top bs
called_elsewhere v s asks ans bns p i o top bs other h t =
    tracks_on v (record v { said = v.said ++ s ∷ [] }) asks ans bns p i o top bs
    (λ of cs all op. (op.0, op.1, open_other_call v s op.0 top op.1 cs (let z = op.2 in other op.0 op.1 cs of z.stack) op.2))
    (λ op holds. holds) h t

-- the path of a label of another program, or of none, has another top
pub other_top : (v : View) → Sound v → (i : ℕ) (l : List ℕ) → (IsOf i l → ⊥) → (t : Act) (top : Mark) (below : List Act) (cs : List Mark) →
    IsOf i top.label → Stack v.acts t top below cs → is_top t.id (top_in (path v.acts l)) ≡ false
other_top v sound i l not t top below cs of s = by (path_named v.acts sound.good l)
  where
    by : (path v.acts l ≡ []) ⊎ ((j : ℕ) × IsOf j l) → is_top t.id (top_in (path v.acts l)) ≡ false
    by (inl none) = ap (λ p. is_top t.id (top_in p)) none
    by (inr (j, is)) = among (is_top t.id (top_in (path v.acts l))) refl
      where
        among : (b : Bool) → is_top t.id (top_in (path v.acts l)) ≡ b → b ≡ false
        among false fails = refl
        among true holds =
            let own = own_top v sound i t top below cs of s in
            let it = its_top v.acts j (path v.acts l) t.id (path_own v.acts sound.good j l is) holds in
            let same : it.0 ≡ t = same_act v.acts sound.numbered it.0 t (let z = it.1 in z.there) (let z = own.0 in z.there) it.2 in
            let one : j ≡ i = own.1 j (subst (λ (a : Act). IsOf j a.label) same (let z = it.1 in z.label)) in
            absurd (not (subst (λ k. IsOf k l) one is))

-- ---- answers

-- The call of this object by this operation is what an answer to this action answers.
abbrev pub AnswersCall : Asks → Counted → List ℕ → ℕ → Op → Type 0
AnswersCall asks ans l x op = (ans l < length (asks l)) × ((a : Asked) × (last_asked (asks l) ≡ Some a) × IsCallOf x op (Some a.event))

pub answers_call : (accepted : List Asked) (lines : List Line) (l : List ℕ) (x : ℕ) (op : Op) → IsCallOf x op (waits_for accepted lines l) →
    AnswersCall (asks_by accepted) (λ m. length (answers_to lines m)) l x op
answers_call accepted lines l x op is = ended (has_ended lines l) is
  where
    last : (o : Option Asked) → last_asked (asks_by accepted l) ≡ o → IsCallOf x op (option_map (λ a. a.event) o) →
        (a : Asked) × (last_asked (asks_by accepted l) ≡ Some a) × IsCallOf x op (Some a.event)
    last None e it = absurd it
    last (Some a) e it = (a, e, it)

    more : (b : Bool) → nat_lt (length (answers_to lines l)) (length (asks_by accepted l)) ≡ b →
        IsCallOf x op (option_map (λ a. a.event) (cond b (last_asked (asks_by accepted l)) None)) →
        AnswersCall (asks_by accepted) (λ m. length (answers_to lines m)) l x op
    more true e it = (
      nat_below (length (answers_to lines l)) (length (asks_by accepted l)) e,
      last (last_asked
          (asks_by accepted l)) refl it,
    )
      where
        nat_below : (m n : ℕ) → nat_lt m n ≡ true → m < n
        nat_below m n holds = grind (arith, nat_tests, holds)
    more false e it = absurd it

    ended : (b : Bool) → IsCallOf x op (cond b None (option_map (λ a. a.event) (cond
        (nat_lt (length (answers_to lines l)) (length (asks_by accepted l))) (last_asked (asks_by accepted l)) None))) →
        AnswersCall (asks_by accepted) (λ m. length (answers_to lines m)) l x op
    ended true it = absurd it
    ended false it = more (nat_lt (length (answers_to lines l)) (length (asks_by accepted l))) refl it

-- what was asked and what is answered are one
pub call_asked : (e : Event) (m : List ℕ) (x y : ℕ) (op o : Op) → ask_of e ≡ Calls m y o → IsCallOf x op (Some e) → (y ≡ x) × (o ≡ op)
call_asked (event.Call l z p) m x y op o asked is =
    ((let same : z ≡ y = cc in sym same ∙ is.0), (let same : p ≡ o = cc in sym same ∙ is.1))
call_asked _ m x y op o asked is = absurd is

no_pending : (p : Phase) (m l : List ℕ) → (is_phase phase.Calling p && bytes_eq m l) ≡ false → pending p m l ≡ 0
no_pending phase.Calling m l fails = λ i. cond (fails i) 1 0
no_pending _ m l fails = refl

-- an answer that the program doesn't wait for is of no action of it
pub not_of_it : (v : View) (asks : Asks) (ans : Counted) (p : Phase) (i : ℕ) (o : Option Statement) (top : Mark) (bs : List Mark)
    (l : List ℕ) → (is_phase phase.Calling p && bytes_eq (let m = inner_mark top bs in m.label) l) ≡ false → ans l < length (asks l) →
    Tracks v asks ans p i o top bs → IsOf i l → ⊥
not_of_it v asks ans p i o top bs l fails less t of =
    let few = t.slack l of in let none = no_pending p (let m = inner_mark top bs in m.label) l fails in omega (arith, less, few, none)

-- a call that was answered, as the program has it
pub said_same : (s : Statement) (answer : List ℕ) →
    told_by (said_by s answer) ≡ record { x = (let r = said_by s [] in r.x); op = (let r = said_by s [] in r.op); answer = answer }
said_same (statement.Do x op) answer = refl
said_same (statement.Print x op) answer = refl
said_same (statement.If x op wanted first second) answer = refl
said_same (statement.Block retry rest) answer = refl
said_same statement.Fail answer = refl

pub mark_taken : (s : Statement) (answer : List ℕ) (l : Level) (c : Told) → told_by (said_by s answer) ≡ c →
    with_call c (mark_of l) ≡ mark_of (taken s answer l)
mark_taken s answer l c is = λ i. record {
  label = l.label;
  said = (ap (λ x. map told_by l.said ++ x ∷ []) (sym is) ∙ sym (map-append told_by l.said (said_by s answer ∷ []))) i;
}
