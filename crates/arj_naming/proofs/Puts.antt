-- A value written at a key that is there is put there.
use Rattle.std.proofs.Common.{◌≡◌, ℕ, List, [], ◌∷◌, refl, ap, sym, ◌∙◌, subst, cond, true, false, not, ◌==◌, ◌||◌, Some}
use Rattle.std.specs.Prelude.{IsSome, is_some}
use Rattle.std.specs.BTreeMap.{is_at}
use Rattle.std.specs.List.Sorted.{IsStrictlySortedBy}
use Rattle.std.specs.Map.{keys_of, lookup, set_value}
use Rattle.std.specs.declared.cmp.Ordering.{Ordering}
use Rattle.std.specs.declared.cmp.Ordering.TheVariants.{Less, Equal, Greater}
use Rattle.std.specs.Ordering.{nat_cmp, is_eq, match_ordering}
use Rattle.std.specs.Cmp.{nat_cmp_total}
use Rattle.std.proofs.lemmas.Map.{lookup-none}
use Rattle.std.proofs.lemmas.Map.Entries.{none_below_head}
use Rattle.std.proofs.lemmas.Map.Keys.{sorted_tail}
use Rattle.arj_base.specs.declared.path.Path.{Path}
use Rattle.arj_msg.specs.declared.message.Bind.{Bind}
use Rattle.arj_msg.specs.declared.message.RecordMsg.{RecordMsg}
use Rattle.arj_msg.specs.declared.message.RecordedReply.{RecordedReply}
use Rattle.arj_entry.specs.declared.entry.Entry.{Entry}
use Rattle.arj_naming.specs.Calls.{bind_by, note_by}
use Rattle.arj_protocol.specs.Confirm.{lock_in}
use Rattle.arj_protocol.specs.Effect.{Pair, Served, void, reply}
use Rattle.arj_protocol.specs.Named.{Named, Counted, locked, bind_named, note_named}
use Rattle.arj_protocol.specs.Naming.{Naming, is_over, listed_entry, on_counted, on_named}
use Rattle.arj_protocol.specs.Order.{at_number, put_number}
use Rattle.arj_protocol.specs.Ask.{top_of}
use Rattle.arj_protocol.specs.Words.mode
use Rattle.arj_protocol.specs.Words.recorded
use Rattle.arj_protocol.specs.Words.what

pub put_found : {X : Type 0} (x : ℕ) (v : X) (es : List (ℕ × X)) → IsStrictlySortedBy nat_cmp (keys_of es) →
    IsSome (lookup (is_at (nat_cmp x)) es) → set_value (is_at (nat_cmp x)) es v ≡ put_number x v es
put_found x v [] sorted there = absurd (cc there)
put_found {X} x v (e ∷ es) sorted there =
    by (nat_cmp x e.0) refl (λ more. put_found x v es (sorted_tail nat_cmp e.0 (keys_of es) sorted) more) there
  where
    by : (r : Ordering) → nat_cmp x e.0 ≡ r →
        (IsSome (lookup (is_at (nat_cmp x)) es) → set_value (is_at (nat_cmp x)) es v ≡ put_number x v es)
        → IsSome (cond (is_eq r) (Some e.1) (lookup (is_at (nat_cmp x)) es))
        → cond (is_eq r) ((e.0, v) ∷ es) (e ∷ set_value (is_at (nat_cmp x)) es v) ≡ match_ordering r ((x, v) ∷ e ∷ es) ((e.0, v) ∷ es) (e ∷ put_number x v es)
    by Less is ih more =
        absurd (cc (subst IsSome (lookup-none (is_at (nat_cmp x)) (e ∷ es) (none_below_head nat_cmp_total x e es sorted is)) there))
    by Equal is ih more = refl
    by Greater is ih more = ap (λ rest. e ∷ rest) (ih more)

-- what an object became is put back where it stood
pub put_back : {X : Type 0} (x : ℕ) (m es : List (ℕ × X)) (o new : X) → at_number x m ≡ Some o → IsStrictlySortedBy nat_cmp (keys_of m) →
    es ≡ set_value (is_at (nat_cmp x)) m new → es ≡ put_number x new m
put_back x m es o new at sorted written = written ∙ put_found x new m sorted (subst IsSome (sym at) refl)

module _ (inside shown : Naming) (same : inside ≡ shown) (x : ℕ) (o : Named) (es : List (ℕ × Named)) (at : at_number x inside.objects ≡ Some o) (sorted : IsStrictlySortedBy nat_cmp (keys_of inside.objects)) where
  pub locked_part : (p : Path) (new : Named) → es ≡ set_value (is_at (nat_cmp x)) inside.objects new → new ≡ locked x p mode.Exclude o
      → record inside { objects = es } ≡ (lock_in x p shown (at_number x shown.objects)).part
  locked_part p new written is =
      (λ i. record inside {
        objects =
            (put_back x inside.objects es o new at sorted written ∙ (λ j. put_number x (is j) inside.objects)) i;
      })
      ∙ ((λ i. (lock_in x p inside (sym at i)).part) ∙ ap (λ n. (lock_in x p n (at_number x n.objects)).part) same)

  pub bound_part : (m : Bind) (d : Pair) (e : Entry) (new : Counted) → is_over m.head.path shown ≡ false → e ≡ listed_entry m.x d → m.x ≡ x
      → new ≡ (bind_named inside.inc x m.head.path m.include m.avoid e (record { named = o; count = inside.count })).part →
      es ≡ set_value (is_at (nat_cmp x)) inside.objects new.named
      → record inside { count = new.count; objects = es } ≡ (bind_by m d shown).part
  bound_part m d e new open_yet entry_is here is written =
      (λ i. record inside {
        count = (is i).count;
        objects =
            (put_back x inside.objects es o new.named at sorted written ∙ (λ j. put_number x (is j).named inside.objects)) i;
      })
      ∙ ((λ i. (on_counted x (bind_named inside.inc x m.head.path m.include m.avoid (entry_is i)) inside (sym at i)).part)
      ∙ ((λ i. (on_counted (sym here i) (bind_named inside.inc (sym here i) m.head.path m.include m.avoid (listed_entry m.x d)) inside (at_number (sym here i) inside.objects)).part)
      ∙ ((λ i. (on_counted m.x (bind_named (same i).inc m.x m.head.path m.include m.avoid (listed_entry m.x d)) (same i) (at_number m.x (same i).objects)).part)
      ∙ (λ i. (cond (sym open_yet i) (void shown) (on_counted m.x (bind_named shown.inc m.x m.head.path m.include m.avoid (listed_entry m.x d)) shown (at_number m.x shown.objects))).part))))

  pub noted_part : (m : RecordMsg) (new : Named) → is_over m.head.path shown ≡ false → m.x ≡ x → (m.naming_inc == inside.inc) ≡ true
      → new ≡ (note_named m.x (top_of m.head.path) m.binding m.server_inc o).part → es ≡ set_value (is_at (nat_cmp x)) inside.objects new →
      record inside { objects = es } ≡ (note_by m shown).part
  noted_part m new open_yet here same_inc is written =
      (λ i. record inside {
        objects =
            (put_back x inside.objects es o new at sorted written ∙ (λ j. put_number x (is j) inside.objects)) i;
      })
      ∙ ((λ i. (on_named x (note_named m.x (top_of m.head.path) m.binding m.server_inc) inside (sym at i)).part)
      ∙ ((λ i. (on_named (sym here i) (note_named m.x (top_of m.head.path) m.binding m.server_inc) inside (at_number (sym here i) inside.objects)).part)
      ∙ ((λ i. (cond (sym same_inc i) (on_named m.x (note_named m.x (top_of m.head.path) m.binding m.server_inc) inside (at_number m.x inside.objects)) (reply inside (recorded.Changed (what.Inc m.naming_inc inside.inc)))).part)
      ∙ ((λ i. (cond (not (is_some ((sym at ∙ ap (λ k. at_number k inside.objects) (sym here)) i))) (void inside) (noted inside)).part)
      ∙ ((λ i. (cond (not (is_some (at_number m.x (same i).objects))) (void (same i)) (noted (same i))).part)
      ∙ (λ i. (cond (sym open_yet i || not (is_some (at_number m.x shown.objects))) (void shown) (noted shown)).part))))))
    where
      noted : Naming → Served Naming RecordedReply
      noted n = cond (m.naming_inc == n.inc) (on_named m.x (note_named m.x (top_of m.head.path) m.binding m.server_inc) n (at_number m.x n.objects)) (reply n (recorded.Changed (what.Inc m.naming_inc n.inc)))
