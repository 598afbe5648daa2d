-- Posts that ask nothing and answer nothing: ends, questions and greetings.
use Rattle.arj_law_parts.proofs.Words
use Words.{◌≡◌, ◌≤◌, ◌+◌, ℕ, true, List, [], ◌∷◌, ◌++◌, None, refl, map, ⊤, AllByRecursion, flat_map, Uid, Header, asks, answers, Disk}
use Words.{Effect, Say, Send, Do, Work, Intent, Stop, Before, After, InPart, stopped, worked, Look, PutInc, tell, tell_all, query_about}
use Words.{hello_to, naming_at, naming_back, recovered_records, restart_outs, tolds_again, prepared_actions, uid_set, without_number}
use Words.{AreAll, numbers_to}
use Words.ending
use Words.body
use Rattle.arj_law_disk_view.proofs.Terms.{Office, never, ClaimsAsked}
use Rattle.arj_law_disk_view.proofs.view.{HeardWalks.is_say, RestartWalks.back_says, RestartWalks.map_says}

-- ---- lists of effects

pub all_join : (Q : Effect → Type 0) (xs ys : List Effect) → AllByRecursion Q xs → AllByRecursion Q ys → AllByRecursion Q (xs ++ ys)
all_join Q [] ys p q = q
all_join Q (x ∷ xs) ys p q = (p.0, all_join Q xs ys p.1 q)

pub all_mapped : {X : Type 0} (Q : Effect → Type 0) (f : X → Effect) (xs : List X) → ((a : X) → Q (f a)) → AllByRecursion Q (map f xs)
all_mapped Q f [] each = tt
all_mapped Q f (a ∷ xs) each = (each a, all_mapped Q f xs each)

pub all_flat : {X : Type 0} (Q : Effect → Type 0) (f : X → List Effect) (xs : List X) → ((a : X) → AllByRecursion Q (f a)) →
    AllByRecursion Q (flat_map f xs)
all_flat Q f [] each = tt
all_flat Q f (a ∷ xs) each = all_join Q (f a) (flat_map f xs) (each a) (all_flat Q f xs each)

-- ---- what an effect says

-- the disk's incarnation falls nowhere, however a stop falls
abbrev pub Rises : ℕ → Work → Type 0
Rises i w = (c : Disk) → i ≤ c.inc → ((how : Stop) → i ≤ (stopped how w c).inc) × (i ≤ (worked w c).inc)

-- a message that is sent answers nothing, and claims what it says; a work leaves the incarnation, or raises it
abbrev pub SaysHeard : ℕ → ℕ → Office → Effect → Type 0
SaysHeard x i A (Send to m) = (answers m ≡ None) × ClaimsAsked x A (asks m)
SaysHeard x i A (Say b) = ⊤
SaysHeard x i A (Do w) = Rises i w

module _ (x i : ℕ) (A : Office) where
  abbrev Q : Effect → Type 0
  Q e = SaysHeard x i A e

  pub tolds_say : (telling : List (Uid × Intent)) → AllByRecursion Q (tolds_again telling)
  tolds_say telling = all_flat Q (λ (z : Uid × Intent). tell_all z.1.root true ((z.0, ending.Commit) ∷ []) z.1.nodes) telling
      (λ z. all_mapped Q (tell z.1.root true ((z.0, ending.Commit) ∷ [])) z.1.nodes (λ n. (refl, tt)))

  pub queries_say : (us : List Uid) → AllByRecursion Q (map query_about us)
  queries_say us = all_mapped Q query_about us (λ u. (refl, tt))

  look_says : Rises i Look
  look_says c low = (by, low)
    where
      by : (how : Stop) → i ≤ (stopped how Look c).inc
      by Before = low
      by After = low
      by (InPart which) = low

  rise_says : (j : ℕ) → i ≤ j → Rises i (PutInc j)
  rise_says j high c low = (by, high)
    where
      by : (how : Stop) → i ≤ (stopped how (PutInc j) c).inc
      by Before = low
      by After = high
      by (InPart which) = low

  lines_say : (es : List Effect) → AreAll is_say es → AllByRecursion Q es
  lines_say [] all = tt
  lines_say (Say b ∷ es) all = (tt, lines_say es all)
  lines_say (Send to m ∷ es) all = absurd (never all refl)
  lines_say (Do w ∷ es) all = absurd (never all refl)

  -- all that a restart does
  pub restart_says : (hd : Header) (k : ℕ) (d : Disk) → i ≤ d.inc + 1 → AllByRecursion Q (restart_outs hd k (d.inc + 1) d)
  restart_says hd k d high =
      let back : List Effect = naming_back (naming_at k (d.inc + 1) d.names) in
      let next : List Effect = Do Look ∷ recovered_records k d.intents in
      let hs : List Uid = uid_set (prepared_actions d.store ++ prepared_actions d.names) in
      let hellos : List Effect = map (hello_to k (d.inc + 1)) (without_number k (numbers_to hd.nodes)) in (
        (λ c low. look_says c low),
        (
          rise_says (d.inc + 1) high,
          (
            tt,
            all_join Q (Do Look ∷ back ++ next ++ tolds_again d.intents ++ map query_about hs) hellos
                (all_join Q (Do Look ∷ back ++ next ++ tolds_again d.intents) (map query_about hs)
                (all_join Q (Do Look ∷ back ++ next) (tolds_again d.intents)
                (all_join Q (Do Look ∷ back) next
                ((λ c low. look_says c low), lines_say back (back_says (naming_at k (d.inc + 1) d.names))) (
                  (λ c low. look_says c low),
                  lines_say (recovered_records k d.intents)
                      (map_says (λ (z : Uid × Intent). Say (body.Recovered k z.0)) d.intents (λ z. refl)),
                ))
                (tolds_say d.intents))
                (queries_say hs))
                (all_mapped Q (hello_to k (d.inc + 1)) (without_number k (numbers_to hd.nodes)) (λ n. (refl, tt))),
          ),
        ),
      )
