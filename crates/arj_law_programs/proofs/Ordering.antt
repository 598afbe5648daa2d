-- A list in order by keys: the items of one key stand together in it, in their own order.
use Rattle.std.proofs.Common.{◌≡◌, ◌∙◌, List, [], ◌∷◌, ◌++◌, ℕ, refl, ap, sym, subst, true, false, Bool, cond}
use Rattle.std.specs.Prelude.{filter}
use Rattle.std.specs.List.{AllByRecursion}
use Rattle.arj_law.proofs.Common.{lex_same, lex_turn}
use Rattle.arj_law.proofs.Moves.{all_insert}
use Rattle.arj_model.specs.Serial.{arrange, insert, lex}
use Rattle.arj_replay.proofs.Keys.{lex_then}
use Rattle.arj_law_programs.proofs.Acts.{all_append, all_map}

-- Where an item stands to those of a key: it is one of them, or before them, or behind them.
pub data Stands (less_than more_than is : Type 0) : Type 0 where
  Before : less_than → Stands less_than more_than is
  Behind : more_than → Stands less_than more_than is
  Among : is → Stands less_than more_than is

module _ {A : Type 0} (key : A → List ℕ) (k : List ℕ) (test : A → Bool) where
  -- by their keys
  abbrev pub less : A → A → Bool
  less a b = lex (key a) (key b)

  abbrev pub IsBefore : A → Type 0
  IsBefore a = (test a ≡ false) × (lex (key a) k ≡ true)

  abbrev pub IsBehind : A → Type 0
  IsBehind a = (test a ≡ false) × (lex k (key a) ≡ true)

  abbrev pub IsAmong : A → Type 0
  IsAmong a = (test a ≡ true) × (key a ≡ k)

  -- what a list in order is
  pub record Parts (xs : List A) : Type 0 where
    pub before : List A
    pub after : List A
    pub cut : arrange (λ a b. lex (key a) (key b)) xs ≡ before ++ (filter test xs ++ after)
    pub firsts : AllByRecursion IsBefore before
    pub lasts : AllByRecursion IsBehind after

  passes : (a : A) (bs rest : List A) → AllByRecursion (λ (b : A). lex (key b) (key a) ≡ true) bs →
      insert (λ x y. lex (key x) (key y)) a (bs ++ rest) ≡ bs ++ insert (λ x y. lex (key x) (key y)) a rest
  passes a [] rest all = refl
  passes a (b ∷ bs) rest all =
      (λ i. cond (all.0 i) (b ∷ insert (λ x y. lex (key x) (key y)) a (bs ++ rest)) (a ∷ b ∷ (bs ++ rest)))
      ∙ ap (λ ys. b ∷ ys) (passes a bs rest all.1)

  stops : (a : A) (rest : List A) → AllByRecursion (λ (b : A). lex (key b) (key a) ≡ false) rest →
      insert (λ x y. lex (key x) (key y)) a rest ≡ a ∷ rest
  stops a [] all = refl
  stops a (b ∷ rest) all = λ i. cond (all.0 i) (b ∷ insert (λ x y. lex (key x) (key y)) a rest) (a ∷ b ∷ rest)

  stays_in : (a : A) (bs rest : List A) → AllByRecursion (λ (b : A). lex (key b) (key a) ≡ false) rest →
      insert (λ x y. lex (key x) (key y)) a (bs ++ rest) ≡ insert (λ x y. lex (key x) (key y)) a bs ++ rest
  stays_in a [] rest all = stops a rest all
  stays_in a (b ∷ bs) rest all = by (lex (key b) (key a)) (stays_in a bs rest all)
    where
      by : (c : Bool) → insert (λ x y. lex (key x) (key y)) a (bs ++ rest) ≡ insert (λ x y. lex (key x) (key y)) a bs ++ rest →
          cond c (b ∷ insert (λ x y. lex (key x) (key y)) a (bs ++ rest)) (a ∷ b ∷ (bs ++ rest))
          ≡ cond c (b ∷ insert (λ x y. lex (key x) (key y)) a bs) (a ∷ b ∷ bs) ++ rest
      by true ih = ap (λ ys. b ∷ ys) ih
      by false ih = refl

  -- those of the key
  filtered : (xs : List A) → AllByRecursion (λ (x : A). Stands (IsBefore x) (IsBehind x) (IsAmong x)) xs →
      AllByRecursion IsAmong (filter test xs)
  filtered [] all = tt
  filtered (x ∷ xs) all = by all.0 (filtered xs all.1)
    where
      out : test x ≡ false → AllByRecursion IsAmong (filter test xs) →
          AllByRecursion IsAmong (cond (test x) (x ∷ filter test xs) (filter test xs))
      out e ih = subst (λ b. AllByRecursion IsAmong (cond b (x ∷ filter test xs) (filter test xs))) (sym e) ih

      by : Stands (IsBefore x) (IsBehind x) (IsAmong x) → AllByRecursion IsAmong (filter test xs) →
          AllByRecursion IsAmong (cond (test x) (x ∷ filter test xs) (filter test xs))
      by (Before b) ih = out b.0 ih
      by (Behind b) ih = out b.0 ih
      by (Among m) ih = subst (λ b. AllByRecursion IsAmong (cond b (x ∷ filter test xs) (filter test xs))) (sym m.0) (m, ih)

  kept_out : (x : A) (xs : List A) → test x ≡ false → filter test xs ≡ filter test (x ∷ xs)
  kept_out x xs e = λ i. cond (sym e i) (x ∷ filter test xs) (filter test xs)

  pub stands_together : (xs : List A) → AllByRecursion (λ (x : A). Stands (IsBefore x) (IsBehind x) (IsAmong x)) xs → Parts xs
  stands_together [] all = record { before = []; after = []; cut = refl; firsts = tt; lasts = tt }
  stands_together (x ∷ xs) all = by all.0 (stands_together xs all.1) (filtered xs all.1)
    where
      by : Stands (IsBefore x) (IsBehind x) (IsAmong x) → Parts xs → AllByRecursion IsAmong (filter test xs) → Parts (x ∷ xs)
      by (Among m) p same = record {
        before = p.before;
        after = p.after;
        cut = ap (insert (λ a b. lex (key a) (key b)) x) p.cut
            ∙ passes x p.before (filter test xs ++ p.after)
            (all_map IsBefore (λ (b : A). lex (key b) (key x) ≡ true) (λ b o. ap (lex (key b)) m.1 ∙ o.1) p.before p.firsts)
            ∙ ap (λ ys. p.before ++ ys) (stops x (filter test xs ++ p.after)
            (all_append (λ (b : A). lex (key b) (key x) ≡ false) (filter test xs) p.after
            (all_map IsAmong (λ (b : A). lex (key b) (key x) ≡ false) (λ b o. (λ i. lex (o.1 i) (m.1 i))
            ∙ lex_same k) (filter test xs) same)
            (all_map IsBehind (λ (b : A). lex (key b) (key x) ≡ false) (λ b o. ap (lex (key b)) m.1
            ∙ lex_turn k (key b) o.1) p.after p.lasts)))
            ∙ (λ i. p.before ++ (cond (sym m.0 i) (x ∷ filter test xs) (filter test xs) ++ p.after));
        firsts = p.firsts;
        lasts = p.lasts;
      }
      by (Behind o) p same = record {
        before = p.before;
        after = insert (λ a b. lex (key a) (key b)) x p.after;
        cut = ap (insert (λ a b. lex (key a) (key b)) x) p.cut
            ∙ passes x p.before (filter test xs ++ p.after)
            (all_map IsBefore (λ (b : A). lex (key b) (key x) ≡ true) (λ b q. lex_then (key b) k (key x) q.1 (lex_turn k
            (key x) o.1)) p.before p.firsts)
            ∙ ap (λ ys. p.before ++ ys) (passes x (filter test xs) p.after
            (all_map IsAmong (λ (b : A). lex (key b) (key x) ≡ true) (λ b q. ap (λ j. lex j (key x)) q.1 ∙ o.1) (filter test xs) same))
            ∙ ap (λ ys. p.before ++ (ys ++ insert (λ a b. lex (key a) (key b)) x p.after)) (kept_out x xs o.0);
        firsts = p.firsts;
        lasts = all_insert IsBehind (λ a b. lex (key a) (key b)) x p.after o p.lasts;
      }
      by (Before o) p same = record {
        before = insert (λ a b. lex (key a) (key b)) x p.before;
        after = p.after;
        cut = ap (insert (λ a b. lex (key a) (key b)) x) p.cut
            ∙ stays_in x p.before (filter test xs ++ p.after)
            (all_append (λ (b : A). lex (key b) (key x) ≡ false) (filter test xs) p.after
            (all_map IsAmong (λ (b : A). lex (key b) (key x) ≡ false) (λ b q. ap (λ j. lex j (key x)) q.1
            ∙ lex_turn (key x) k o.1) (filter test xs) same)
            (all_map IsBehind (λ (b : A). lex (key b) (key x) ≡ false)
            (λ b q. lex_turn (key x) (key b) (lex_then (key x) k (key b) o.1 (lex_turn k (key b) q.1))) p.after p.lasts))
            ∙ ap (λ ys. insert (λ a b. lex (key a) (key b)) x p.before ++ (ys ++ p.after)) (kept_out x xs o.0);
        firsts = all_insert IsBefore (λ a b. lex (key a) (key b)) x p.before o p.firsts;
        lasts = p.lasts;
      }
