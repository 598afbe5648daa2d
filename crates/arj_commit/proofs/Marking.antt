-- The marks that the code makes are those of the protocol, where the loaded states are their objects'.
use Rattle.std.proofs.Common.{◌≡◌, ℕ, List, [], ◌∷◌, Bool, true, false, ◌||◌, Option, Some, None, if◌then◌else◌, is_some, map, filter, refl}
use Rattle.std.proofs.Common.{sym, ap, ◌∙◌, arith, IfSome}
use Rattle.std.specs.List.{AllByRecursion, find, filter_map, cons_option}
use Rattle.std.proofs.lemmas.Bool.Decides.{nat_tests}
use Rattle.arj_base.specs.declared.state.ObjectState.{ObjectState}
use Rattle.arj_base.specs.Uid.{uid_eq, object}
use Rattle.arj_protocol.specs.Order.{has}
use Rattle.arj_protocol.specs.Commit.{Used, Plan, state_by, marks_store, marks_stores, with_marks}
use Rattle.arj_commit.specs.Fits.{UsedFits, PlanFits}
use Rattle.arj_commit.specs.Marks.{is_sent, marks_in, marked_all}
use Rattle.arj_commit.specs.Requests.{state_in}

-- the state has the number of the object
abbrev IsOf : ℕ → ObjectState → Type 0
IsOf x s = s.uid.num ≡ x

found_is : (x : ℕ) (states : List ObjectState) → IfSome (find (λ s. uid_eq s.uid (object x)) states) (IsOf x)
found_is x [] = tt
found_is x (s ∷ ss) = by (uid_eq s.uid (object x)) refl (found_is x ss)
  where
    same : uid_eq s.uid (object x) ≡ true → s.uid.num ≡ x
    same is = grind (arith, nat_tests, is)

    by : (b : Bool) → uid_eq s.uid (object x) ≡ b → IfSome (find (λ t. uid_eq t.uid (object x)) ss) (IsOf x)
        → IfSome (if b then Some s else find (λ t. uid_eq t.uid (object x)) ss) (IsOf x)
    by true is rest = same is
    by false is rest = rest

if_some : (b : Bool) (o : Option ObjectState) (x : ℕ) → IfSome o (IsOf x) → IfSome (if b then o else None) (IsOf x)
if_some true o x is = is
if_some false o x is = tt

sent_is : (s : ℕ) (u : Used) (o : Option ObjectState) → UsedFits u → IfSome o (IsOf u.x) → IfSome (state_by s u o) (IsOf u.x)
sent_is s u None fits is = if_some (has u.joins s) u.loaded u.x fits.loaded
sent_is s u (Some t) fits is = if_some (has u.stores s || has u.joins s) (Some t) u.x is

-- a mark of a store for a state
abbrev mark_of : ℕ → ObjectState → ℕ × ℕ
mark_of s t = (t.uid.num, s)

marks_same : (s : ℕ) (changed : List ObjectState) (us : List Used) → AllByRecursion UsedFits us
    → map {A = ObjectState} {B = ℕ × ℕ} (mark_of s) (filter_map (state_in s changed) us) ≡ marks_in s changed us
marks_same s changed [] all = refl
marks_same s changed (u ∷ us) all =
    by (state_in s changed u) (sent_is s u (find (λ t. uid_eq t.uid (object u.x)) changed) all.0 (found_is u.x changed)) (marks_same s changed us all.1)
  where
    by : (o : Option ObjectState) → IfSome o (IsOf u.x)
        → map {A = ObjectState} {B = ℕ × ℕ} (mark_of s) (filter_map (state_in s changed) us) ≡ marks_in s changed us
        → map {A = ObjectState} {B = ℕ × ℕ} (mark_of s) (cons_option o (filter_map (state_in s changed) us))
        ≡ map {A = Used} {B =
        ℕ × ℕ} (λ w. (w.x, s)) (if is_some o then u ∷ filter (is_sent s changed) us else filter (is_sent s changed) us)
    by None is rest = rest
    by (Some t) is rest = λ i. (is i, s) ∷ rest i

pub marked_store : (s : ℕ) (p : Plan) → PlanFits p →
    marks_store s p ≡ record p { excluded = with_marks (marks_in s p.changed p.used) p.excluded }
marked_store s p fits = ap (λ ms. record p { excluded = with_marks ms p.excluded }) (marks_same s p.changed p.used fits.used)

pub marked_stores : (ss : List ℕ) (p : Plan) → PlanFits p →
    record p { excluded = marked_all ss p.changed p.used p.excluded } ≡ marks_stores ss p
marked_stores [] p fits = refl
marked_stores (s ∷ ss) p fits =
    marked_stores ss (record p { excluded = with_marks (marks_in s p.changed p.used) p.excluded }) (record {
      used = fits.used;
      prepared =
          fits.prepared;
    })
    ∙ ap (marks_stores ss) (sym (marked_store s p fits))
