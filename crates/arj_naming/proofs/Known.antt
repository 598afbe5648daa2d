-- A store of entries knows of few objects, and new entries are small.
use Rattle.std.proofs.Common.{◌≡◌, ◌∙◌, ◌≤◌, ◌<◌, ℕ, zero, suc, List, [], ◌∷◌, Bool, true, false, cond, refl, sym, ap, subst, ⊎_elim, map}
use Rattle.std.proofs.Common.{length, get_or, Option, Some, None, arith}
use Rattle.std.specs.Prelude.{IsSome, IfSome, Contains, option_map}
use Rattle.std.specs.List.{AllByRecursion}
use Rattle.std.proofs.lemmas.Bool.{cases_eq}
use Rattle.std.proofs.lemmas.List.{length-append}
use Rattle.arj_base.specs.State.{state_bytes}
use Rattle.arj_base.specs.Uid.{entry, uid_eq}
use Rattle.arj_base.specs.declared.state.ObjectState.{ObjectState}
use Rattle.arj_base.specs.declared.uid.Uid.{Uid}
use Rattle.arj_base.proofs.Uids.{uid_is}
use Rattle.arj_disk.specs.Says.{names, new_of, role_of}
use Rattle.arj_disk.specs.declared.slot.Role.TheVariants.{Names}
use Rattle.arj_msg.specs.InForm.{IsObject}
use Rattle.arj_naming.specs.Entries.{AreEntries, AreOfEntries, IsEntryState}
use Rattle.arj_law_store.specs.store.Files.{IsPairOf}
use Rattle.arj_law_store.proofs.store.Held.{found}
use Rattle.arj_naming.proofs.Nodes.{few_nodes}
use Rattle.arj_protocol.specs.Effect.{Pair, held_at}
use Rattle.arj_protocol.specs.Order.{at_uid}
use Rattle.arj_protocol.specs.Values.{state_entry}
use Rattle.arj_store.specs.Pair as files
use Rattle.arj_store.specs.Pair.{packed, uid_of}
use Rattle.arj_store.proofs.Sizes.{state_within}

-- the entries of the first n objects
abbrev pub entries_to : ℕ → List Uid
entries_to zero = []
entries_to (suc n) = entry (suc n) ∷ entries_to n

pub as_many : (n : ℕ) → length (entries_to n) ≡ n
as_many zero = refl
as_many (suc n) = ap suc (as_many n)

contains_behind : (w u : Uid) (us : List Uid) → Contains us u → Contains (w ∷ us) u
contains_behind w u us c = (suc c.0, omega (arith, c.1), c.2)

among_all : (n x : ℕ) → 1 ≤ x → x ≤ n → Contains (entries_to n) (entry x)
among_all zero x one most = absurd (omega (arith, one, most))
among_all (suc n) x one most = ⊎_elim
    (λ (same : x ≡ suc n). let here : Contains (entry (suc n) ∷ entries_to n) (entry (suc n)) =
    (zero, omega arith, refl) in subst (λ y. Contains (entries_to (suc n)) (entry y)) (sym same) here)
    (λ (other : x ≡ suc n →
    ⊥). contains_behind (entry (suc n)) (entry x) (entries_to n) (among_all n x one (omega (arith, most, other)))) (cases_eq x (suc n))

-- a Uid that is an entry of an object
abbrev IsOfObject : Uid → Type 0
IsOfObject u = IsObject u.num × (u ≡ entry u.num)

pub known_among : (u : Uid) → IsOfObject u → Contains (entries_to 256) u
known_among u is = subst (Contains (entries_to 256)) (sym is.1) (among_all 256 u.num is.0.0 is.0.1)

own_object : (u : Uid) (s : ObjectState) → IsEntryState u s → IsOfObject u
own_object u s is = (is.state.object, is.state.of)

named_among : (states : List ObjectState) (u : Uid) → AllByRecursion (λ s. IsEntryState s.uid s) states →
    IsSome (new_of (packed states) u) → IsOfObject u
named_among [] u all named = absurd (cc named)
named_among (s ∷ ss) u all named = by (uid_eq u s.uid) refl named (named_among ss u all.1)
  where
    by : (b : Bool) → uid_eq u s.uid ≡ b → IsSome (cond b (Some (state_bytes s)) (new_of (packed ss) u)) →
        (IsSome (new_of (packed ss) u) → IsOfObject u) → IsOfObject u
    by true is named rest = subst IsOfObject (sym (uid_is u s.uid is)) (own_object s.uid s all.0)
    by false is named rest = rest named

-- each object of which the store knows is one of the first 256
pub known_all : (p : files.Pair) (d : Pair) → IsPairOf p d → AreEntries d → (u : Uid) → files.IsKnown p u → Contains (entries_to 256) u
known_all p d are good u known = known_among u (⊎_elim held prepared known)
  where
    held : IsSome (p.held u) → IsOfObject u
    held is = by (held_at u d) refl (found IsEntryState u d.held good.held)
      where
        by : (o : Option ObjectState) → held_at u d ≡ o → IfSome o (IsEntryState u) → IsOfObject u
        by None at all = absurd (cc (subst IsSome (are.held u ∙ ap (option_map state_bytes) at) is))
        by (Some s) at all = own_object u s all

    prepared : files.InDoubt p u → IsOfObject u
    prepared is = by (at_uid is.0 d.pend) refl (found (λ a states. AreOfEntries states) is.0 d.pend good.pend)
      where
        by : (o : Option (List ObjectState)) → at_uid is.0 d.pend ≡ o → IfSome o AreOfEntries → IsOfObject u
        by None at all = absurd (subst (λ o. names o u) (are.pend is.0 ∙ ap (option_map packed) at) is.1)
        by (Some states) at all = named_among states u all.each (subst (λ o. names o u) (are.pend is.0 ∙ ap (option_map packed) at) is.1)

added_at : (states : List ObjectState) (i : ℕ) (u : Uid) → AllByRecursion (λ s. IsEntryState s.uid s) states →
    i < length (map uid_of states) → get_or (map uid_of states) i u ≡ u → IsOfObject u
added_at [] i u all within is = absurd (omega (arith, within))
added_at (s ∷ ss) zero u all within is = subst IsOfObject is (own_object s.uid s all.0)
added_at (s ∷ ss) (suc i) u all within is = added_at ss i u all.1 (omega (arith, within)) is

pub added_all : (states : List ObjectState) → AllByRecursion (λ s. IsEntryState s.uid s) states → (u : Uid) →
    Contains (map uid_of states) u → Contains (entries_to 256) u
added_all states all u c = known_among u (added_at states c.0 u all c.1 c.2)

-- ---- the role and the size of the states

pub all_names : (states : List ObjectState) → AllByRecursion (λ s. IsEntryState s.uid s) states →
    AllByRecursion (λ s. role_of s.uid ≡ Names) states
all_names [] all = tt
all_names (s ∷ ss) all = (ap role_of all.0.state.of, all_names ss all.1)

small_payload : (s : ObjectState) → IsEntryState s.uid s → length s.payload ≤ 512
small_payload s is =
    let servers = few_nodes (state_entry s).servers is.state.servers in
    let stores = few_nodes (state_entry s).stores is.state.stores in
    omega (arith, ap length is.state.restores, length-append (length (state_entry s).servers ∷ (state_entry s).servers) (length (state_entry s).stores ∷ (state_entry s).stores), servers, stores)

small_state : (s : ObjectState) → length s.payload ≤ 512 → length (state_bytes s) ≤ 65535
small_state s small = omega (arith, small, (state_within s).1)

pub all_small : (states : List ObjectState) → AllByRecursion (λ s. IsEntryState s.uid s) states →
    AllByRecursion (λ s. length (state_bytes s) ≤ 65535) states
all_small [] all = tt
all_small (s ∷ ss) all = (small_state s (small_payload s all.0), all_small ss all.1)
