-- What is prepared of an entry, state by state and action by action.
use Rattle.std.proofs.Common.{◌≡◌, ◌∙◌, ℕ, Bool, true, false, cond, List, ◌∷◌, refl, ap, Some, None}
use Rattle.std.specs.Prelude.{Option, find, option_map}
use Rattle.arj_base.specs.Uid.{uid_eq}
use Rattle.arj_base.specs.declared.mode.Mode.{Mode}
use Rattle.arj_base.specs.declared.state.ObjectState.{ObjectState}
use Rattle.arj_base.specs.declared.uid.Uid.{Uid}
use Rattle.arj_naming.specs.Back.{prepared_as, prepared_in}
use Rattle.arj_naming.specs.declared.pending.Pending.{Pending}
use Rattle.arj_protocol.specs.Confirm.{mode_back, pending_of}
use Rattle.arj_protocol.specs.Effect.{either}
use Rattle.arj_protocol.specs.Values.{state_entry}

-- one state more is put
pub put_next : (act : Uid) (s : ObjectState) (ss : List ObjectState) (u : Uid) (old new all : Option Pending) →
    new ≡ either old (cond (uid_eq s.uid u) (Some (prepared_as (act, s))) None)
    → either old (prepared_in act (s ∷ ss) u) ≡ all → either new (prepared_in act ss u) ≡ all
put_next act s ss u old new all put before = ap (λ n. either n (prepared_in act ss u)) put ∙ (by (uid_eq s.uid u) old ∙ before)
  where
    by : (b : Bool) (o : Option Pending) →
        either (either o (cond b (Some (prepared_as (act, s))) None)) (prepared_in act ss u) ≡ either o (option_map (λ t. prepared_as (act, t)) (cond b (Some s) (find (λ (t : ObjectState). uid_eq t.uid u) ss)))
    by true None = refl
    by false None = refl
    by true (Some p) = refl
    by false (Some p) = refl

-- one action more is put
pub put_more : (act : Uid) (ss : List ObjectState) (rest : List (Uid × List ObjectState)) (u : Uid) (old new all : Option Pending) →
    new ≡ either old (prepared_in act ss u)
    → either old (option_map prepared_as (pending_of u ((act, ss) ∷ rest))) ≡ all →
    either new (option_map prepared_as (pending_of u rest)) ≡ all
put_more act ss rest u old new all put before =
    ap (λ n. either n (option_map prepared_as (pending_of u rest))) put ∙ (by (find (λ (t : ObjectState). uid_eq t.uid u) ss) old ∙ before)
  where
    by : (f : Option ObjectState) (o : Option Pending) →
        either (either o (option_map (λ t. prepared_as (act, t)) f)) (option_map prepared_as (pending_of u rest)) ≡ either o (option_map prepared_as (either (option_map (λ t. (act, t)) f) (pending_of u rest)))
    by None None = refl
    by (Some s) None = refl
    by None (Some p) = refl
    by (Some s) (Some p) = refl

pub either_none : (o : Option Pending) → either o None ≡ o
either_none None = refl
either_none (Some p) = refl

-- the lock that a prepared entry gives back

abbrev pub lock_of : List ℕ → Pending → Uid × Mode
lock_of stores p = (p.action, mode_back p.stores stores)

abbrev lock_by : List ℕ → Uid × ObjectState → Uid × Mode
lock_by stores p = (p.0, mode_back (state_entry p.1).stores stores)

pub mode_of : (stores : List ℕ) (o : Option (Uid × ObjectState)) (found : Option Pending) → found ≡ option_map prepared_as o →
    option_map (lock_of stores) found ≡ option_map (lock_by stores) o
mode_of stores o found is = ap (option_map (lock_of stores)) is ∙ by o
  where
    by : (o : Option (Uid × ObjectState)) → option_map (lock_of stores) (option_map prepared_as o) ≡ option_map (lock_by stores) o
    by None = refl
    by (Some p) = refl
