-- Where each node that is seen is so: one of them, and all others.
use Rattle.arj_law_parts.proofs.Words
use Words.{◌≡◌, ◌==◌, ◌∙◌, ℕ, Bool, true, false, cond, Option, Some, refl, subst, Disk, Parts, Node, Seen, same_number}
use Rattle.arj_law_parts.specs.moves.Seen.{at}

module _ (Is : Node → Type 0) where
  -- each node is so
  abbrev pub Each : Seen → Type 0
  Each M = (j : ℕ) (n : Node) → M.nodes j ≡ Some n → Is n

  -- each but this one
  abbrev pub EachBut : ℕ → Seen → Type 0
  EachBut k M = (j : ℕ) (n : Node) → (j == k) ≡ false → M.nodes j ≡ Some n → Is n

  pub others : (k : ℕ) (d : Disk) (live : Option Parts) (M : Seen) → Each (at k d live M) → EachBut k M
  others k d live M all j n apart is =
      all j n ((λ i. cond (apart i) (Some (record { number = k; disk = d; live = live })) (M.nodes j)) ∙ is)

  pub own : (k : ℕ) (d : Disk) (live : Option Parts) (M : Seen) → Each (at k d live M) → Is (record { number = k; disk = d; live = live })
  own k d live M all = all k (record { number = k; disk = d; live = live })
      (λ i. cond (same_number k i) (Some (record { number = k; disk = d; live = live })) (M.nodes k))

  pub back : (k : ℕ) (d : Disk) (live : Option Parts) (M : Seen) → Is (record { number = k; disk = d; live = live }) → EachBut k M →
      Each (at k d live M)
  back k d live M its all j n is = by (j == k) refl is
    where
      x : Node
      x = record { number = k; disk = d; live = live }

      by : (b : Bool) → (j == k) ≡ b → cond b (Some x) (M.nodes j) ≡ Some n → Is n
      by true same there = let here : x ≡ n = cc in subst Is here its
      by false apart there = all j n apart there
