-- Listed stores are those of the header's line, or of lines of includes.
use Rattle.arj_law_parts.proofs.Words
use Words.{◌≡◌, ◌⊎◌, ◌==◌, ◌&&◌, ◌++◌, ℕ, List, [], ◌∷◌, filter, Bool, true, false, cond, not, nat_lt, Option, Some, None, refl, ap, subst}
use Words.{inl, inr, ⊎_elim, eqb-true, is_some, length, nat_le, list_all, and_parts, In, in_filter, in_filter_map, in_find, in_to, Header}
use Words.{Line, ObjectLine}
use Rattle.arj_law_serial.proofs.Terms
use Terms.{HeaderFits, STORES, Act, Placed, chain_in, committed, has_end, top_in, Top, Inclusion, included, increasing, insert_number}
use Terms.{is_among, joins_by, joins_of, leaves_of, listed_after, listed_from, object_line, serial_tops, stores_of_line, is_distinct}
use Terms.{or_which, IncludesAreThere}
use Rattle.arj_law_serial.proofs.joint.Firsts.{form_of, line_in}
use Rattle.arj_law_serial.specs.joint.Shown.{AreThere}
use Rattle.arj_model.specs.Last.{listed}

pub in_among : (ns : List ℕ) (s : ℕ) → is_among ns s ≡ true → In s ns
in_among [] s on = absurd (cc on)
in_among (m ∷ ns) s on =
    ⊎_elim (λ here. inl (eqb-true m s here)) (λ there. inr (in_among ns s there)) (or_which (m == s) (is_among ns s) on)

in_append : (s : ℕ) (xs ys : List ℕ) → In s (xs ++ ys) → In s xs ⊎ In s ys
in_append s [] ys i = inr i
in_append s (x ∷ xs) ys (inl same) = inl (inl same)
in_append s (x ∷ xs) ys (inr i) = ⊎_elim (λ a. inl (inr a)) (λ b. inr b) (in_append s xs ys i)

in_inserted : (s n : ℕ) (ms : List ℕ) → In s (insert_number n ms) → (n ≡ s) ⊎ In s ms
in_inserted s n [] (inl same) = inl same
in_inserted s n [] (inr i) = absurd i
in_inserted s n (m ∷ ms) i = by (n == m) (nat_lt n m) i (in_inserted s n ms)
  where
    by : (a b : Bool) → In s (cond a (m ∷ ms) (cond b (n ∷ m ∷ ms) (m ∷ insert_number n ms))) →
        (In s (insert_number n ms) → (n ≡ s) ⊎ In s ms) → (n ≡ s) ⊎ In s (m ∷ ms)
    by true b j ih = inr j
    by false true (inl same) ih = inl same
    by false true (inr j) ih = inr j
    by false false (inl same) ih = inr (inl same)
    by false false (inr j) ih = ⊎_elim (λ same. inl same) (λ k. inr (inr k)) (ih j)

in_increasing : (s : ℕ) (ns : List ℕ) → In s (increasing ns) → In s ns
in_increasing s [] i = i
in_increasing s (n ∷ ns) i = ⊎_elim (λ same. inl same) (λ j. inr (in_increasing s ns j)) (in_inserted s n (increasing ns) i)

-- each of nodes in form
each_node : (n : ℕ) (ns : List ℕ) → list_all (λ m. nat_le 1 m && nat_le m n) ns ≡ true → (s : ℕ) → In s ns →
    (nat_le 1 s && nat_le s n) ≡ true
each_node n [] all s i = absurd i
each_node n (m ∷ ns) all s (inl same) = subst (λ k. (nat_le 1 k && nat_le k n) ≡ true) same
    (and_parts (nat_le 1 m && nat_le m n) (list_all (λ k. nat_le 1 k && nat_le k n) ns) all).0
each_node n (m ∷ ns) all s (inr i) =
    each_node n ns (and_parts (nat_le 1 m && nat_le m n) (list_all (λ k. nat_le 1 k && nat_le k n) ns) all).1 s i

module _ (hd : Header) (lines : List Line) (form : HeaderFits hd) (includes : IncludesAreThere hd lines) (x : ℕ) where
  abbrev All : List ℕ → Type 0
  All ns = (s : ℕ) → In s ns → AreThere hd x s

  joined_there : (t : Top) → All (joins_of lines t.id x)
  joined_there t s i =
      let f = in_filter_map (λ (k : Placed Inclusion). joins_by (committed lines) t.id x k (top_in k.it.path)) s (included lines) i in
      by f.0 f.1 (top_in (let k = f.0 in k.it.path)) f.2
    where
      by : (k : Placed Inclusion) → In k (included lines) → (o : Option Act) → joins_by (committed lines) t.id x k o ≡ Some s →
          AreThere hd x s
      by k j None is = absurd (cc is)
      by k j (Some a) is =
          one ((a.id == t.id) && ((k.it.x == x) && list_all (λ (b : Act). has_end (committed lines) b.id) (chain_in k.it.path))) refl is
        where
          one : (b : Bool) → ((a.id == t.id) && ((k.it.x == x) && list_all (λ (c : Act). has_end (committed lines) c.id)
              (chain_in k.it.path))) ≡ b → cond b (Some k.it.node) None ≡ Some s → AreThere hd x s
          one false e g = absurd (cc g)
          one true e g =
              let p = and_parts (a.id == t.id)
              ((k.it.x == x) && list_all (λ (c : Act). has_end (committed lines) c.id) (chain_in k.it.path)) e in
              let q = and_parts (k.it.x == x) (list_all (λ (c : Act). has_end (committed lines) c.id) (chain_in k.it.path)) p.1 in
              let node : k.it.node ≡ s = cc g in
              subst (λ n. AreThere hd x n) node
              (subst (λ y. AreThere hd y k.it.node) (eqb-true k.it.x x q.0) (includes k (in_to k (included lines) j)))

  listed_there : (stores : List ℕ) (ts : List Top) → All stores → All (listed_from lines x stores ts)
  listed_there stores [] all = all
  listed_there stores (t ∷ ts) all = listed_there (listed_after lines x stores t) ts (λ s i. ⊎_elim
      (λ old. all s (in_filter (λ m. not (is_among (leaves_of lines t.id x) m)) s stores old).0)
      (λ new. joined_there t s (in_filter (λ m. not (is_among (leaves_of lines t.id x) m)) s (joins_of lines t.id x)
      (in_increasing s (filter (λ m. not (is_among (leaves_of lines t.id x) m)) (joins_of lines t.id x)) new)).0)
      (in_append s (filter (λ m. not (is_among (leaves_of lines t.id x) m)) stores)
      (increasing (filter (λ m. not (is_among (leaves_of lines t.id x) m)) (joins_of lines t.id x))) i))

  first_there : (o : Option ObjectLine) → object_line hd x ≡ o → All (stores_of_line o)
  first_there None is s i = absurd i
  first_there (Some o) is s i =
      let f = in_find (λ (p : ObjectLine). p.x == x) o hd.objects is in
      let fits = form_of hd.nodes o hd.objects (let fs = form.objects in fs.0) (line_in o hd.objects f.0) in
      let both = and_parts (nat_le 1 (length o.stores) && nat_le (length o.stores) STORES)
      (list_all (λ m. nat_le 1 m && nat_le m hd.nodes) o.stores && is_distinct o.stores) fits.stores in (
        each_node hd.nodes o.stores (and_parts (list_all (λ m. nat_le 1 m && nat_le m hd.nodes) o.stores) (is_distinct o.stores) both.1).0 s
            i,
        ap is_some is,
      )

  pub all_there : (s : ℕ) → is_among (listed hd lines x) s ≡ true → AreThere hd x s
  all_there s on = listed_there (stores_of_line (object_line hd x)) (serial_tops lines) (first_there (object_line hd x) refl) s
      (in_among (listed hd lines x) s on)
