-- Tables that are changed Uid by Uid.
use Rattle.std.proofs.Common.{◌≡◌, ◌≢◌, ◌∙◌, ◌||◌, ◌+◌, ◌<◌, true, false, true≢false, Bool, ℕ, List, refl, sym, ap, ⊎_elim, take, get_or}
use Rattle.std.proofs.Common.{length, Option, Some, None}
use Rattle.std.specs.Prelude.{IsSome, is_some, Contains, option_map, ◌↔◌, if◌then◌else◌}
use Rattle.std.proofs.lemmas.List.{take_more}
use Rattle.arj_base.specs.Uid.{uid_eq}
use Rattle.arj_base.specs.declared.uid.Uid.{Uid}
use Rattle.arj_store.proofs.Finding.{contained}
use Rattle.arj_store.proofs.Prepared.{among}
use Rattle.arj_store.proofs.Uids.{in_more, uid_cases, uid_other, uid_same}
use Rattle.arj_store.specs.Shadow.{is_in}
use Rattle.arj_store.specs.Table.{Sets}
use Rattle.arj_segment.specs.Tables.{AllInOne, SetsEach}

-- one more Uid
pub sets_more : {V : Type 0} (us : List Uid) (i : ℕ) (d : Uid) (value : Option V) (old mid new : Uid → Option V) → i < length us →
    SetsEach (take i us) value old mid → Sets mid new (get_or us i d) value → SetsEach (take (i + 1) us) value old new
sets_more us i d value old mid new within so_far sets u =
    ⊎_elim (λ (e : u ≡ get_or us i d). ap new e ∙ sets.here ∙ sym (ap (λ b. if b then value else old u) (among ∙ ap (λ b. is_in (take i us) u || (b || false)) (ap (λ w. uid_eq w (get_or us i d)) e ∙ uid_same (get_or us i d)) ∙ or_true (is_in (take i us) u))))
    (λ (other : u ≢ get_or us i d). sets.others u other ∙ so_far u ∙ sym (ap (λ b. if b then value else old u) (among ∙ ap (λ b. is_in (take i us) u || (b || false)) (uid_other u (get_or us i d) other) ∙ or_false (is_in (take i us) u))))
    (uid_cases u (get_or us i d))
  where
    or_true : (b : Bool) → (b || true) ≡ true
    or_true true = refl
    or_true false = refl

    or_false : (b : Bool) → (b || false) ≡ b
    or_false true = refl
    or_false false = refl

    among : is_in (take (i + 1) us) u ≡ (is_in (take i us) u || (uid_eq u (get_or us i d) || false))
    among = ap (λ ws. is_in ws u) (take_more us i d within) ∙ in_more (take i us) (get_or us i d) u

-- what has a value has this one now
pub all_set : (us : List Uid) (k : ℕ) (old new : Uid → Option ℕ) → ((q : Uid) → IsSome (old q) ↔ Contains us q) →
    SetsEach us (Some k) old new → AllInOne k old new
all_set us k old new there each u = each u ∙ by (old u) (is_in us u) refl refl
  where
    by : (o : Option ℕ) (b : Bool) → old u ≡ o → is_in us u ≡ b → (if b then Some k else old u) ≡ option_map (λ j. k) (old u)
    by None true none is = absurd (true≢false (sym ((there u).1 (among us u is)) ∙ ap is_some none))
    by None false none isnt = none ∙ sym (ap (option_map (λ j. k)) none)
    by (Some j) true some is = sym (ap (option_map (λ j. k)) some)
    by (Some j) false some isnt = absurd (true≢false (sym (contained us u ((there u).0 (ap is_some some))) ∙ isnt))
