-- Which states a node may hold, by what is kept.
use Rattle.std.proofs.Common.{◌≡◌, ℕ, List, [], ◌∷◌, map, Bool, true, false, cond, ◌==◌, ◌&&◌, ◌||◌, Option, Some, None, refl, sym, ◌∙◌, ap}
use Rattle.std.specs.Prelude.{filter, find}
use Rattle.std.specs.List.{list_all, list_any}
use Rattle.std.specs.Option.{option_map}
use Rattle.arj_base.specs.Uid.{uid_eq}
use Rattle.arj_base.specs.declared.uid.Uid.{Uid}
use Rattle.arj_changes.specs.Kept.{AreKept, is_ended, join_of}
use Rattle.arj_changes.specs.declared.kept.Changes.{Changes}
use Rattle.arj_journal.specs.declared.body.Line.{Line}
use Rattle.arj_last.specs.Kept.{write_of}
use Rattle.arj_model.specs.Actions.{Act, Placed, committed, has_end}
use Rattle.arj_model.specs.Calls.{Call, made}
use Rattle.arj_model.specs.CausePends.{has_written}
use Rattle.arj_model.specs.CauseSpans.{holds_in}
use Rattle.arj_model.specs.Last.{Inclusion}
use Rattle.arj_model.specs.Serial.{writes_on}
use Rattle.arj_standing.specs.Begun.{AreBegun}
use Rattle.arj_standing.specs.declared.begun.Begun.{Begun}
use Rattle.arj_pending.specs.Holds.{is_join_at, is_surviving, number_by}

-- the number of the action with a Uid
pub number_is : (us : List Act) (bs : List Begun) → AreBegun us bs → (u : Uid)
    → number_by u bs ≡ option_map (λ a. a.id) (find (λ a. uid_eq a.uid u) us)
number_is [] [] has u = refl
number_is [] (b ∷ bs) has u = absurd has
number_is (a ∷ us) [] has u = absurd has
number_is (a ∷ us) (b ∷ bs) has u = (λ i. cond (uid_eq (has.1 i) u) (Some (has.3 i)) (number_is us bs has.4 u i)) ∙ by (uid_eq a.uid u)
  where
    by : (t : Bool) → cond t (Some a.id) (option_map (λ b. b.id) (find (λ b. uid_eq b.uid u) us))
        ≡ option_map (λ b. b.id) (cond t (Some a) (find (λ b. uid_eq b.uid u) us))
    by true = refl
    by false = refl

-- of an action that isn't there nothing holds
pub holds_none : (P : ℕ → Bool) (o : Option Act) → option_map (λ a. a.id) o ≡ None → holds_in (λ a. P a.id) o ≡ false
holds_none P None e = refl
holds_none P (Some a) e = absurd (cc e)

-- of one that is there it holds by its number
pub holds_some : (P : ℕ → Bool) (o : Option Act) (n : ℕ) → option_map (λ a. a.id) o ≡ Some n → holds_in (λ a. P a.id) o ≡ P n
holds_some P None n e = absurd (cc e)
holds_some P (Some a) n e = let is : a.id ≡ n = cc e in ap P is

turned : (w t k : Bool) → (w && (t && k)) ≡ (t && (k && w))
turned true true true = refl
turned true true false = refl
turned true false k = refl
turned false true true = refl
turned false true false = refl
turned false false k = refl

module _ (ends : List (Placed ℕ)) (x id : ℕ) where
  abbrev stays : Call → Bool
  stays c = list_all (has_end ends) c.chain

  abbrev lasts : List Call → Bool
  lasts cs = list_any (is_surviving (has_end ends) id) (map write_of (filter (writes_on x) cs))

  abbrev wrote : List Call → Bool
  wrote cs = list_any (writes_on x) (filter stays (filter (λ c. c.top == id) cs))

  -- a surviving write of a top, as it is kept
  written_any : (cs : List Call) → lasts cs ≡ wrote cs
  written_any [] = refl
  written_any (c ∷ cs) =
      left (writes_on x c) ∙ (λ i. turned (writes_on x c) (c.top == id) (stays c) i || written_any cs i) ∙ sym (right (c.top == id))
    where
      left : (w : Bool) → list_any (is_surviving (has_end ends) id) (map write_of (cond w (c ∷ filter (writes_on x) cs) (filter (writes_on x) cs)))
          ≡ ((w && ((c.top == id) && stays c)) || lasts cs)
      left true = refl
      left false = refl

      among : (k : Bool) →
          list_any (writes_on x) (cond k (c ∷ filter stays (filter (λ d. d.top == id) cs)) (filter stays (filter (λ d. d.top == id) cs)))
          ≡ ((k && writes_on x c) || wrote cs)
      among true = refl
      among false = refl

      right : (t : Bool) → list_any (writes_on x) (filter stays (cond t (c ∷ filter (λ d. d.top == id) cs) (filter (λ d. d.top == id) cs)))
          ≡ ((t && (stays c && writes_on x c)) || wrote cs)
      right true = among (stays c)
      right false = refl

-- so a top has written an object
pub written_is : (lines : List Line) (c : Changes) → AreKept lines c → (id x : ℕ)
    → list_any (is_surviving (is_ended c) id) (map write_of (filter (writes_on x) (made lines))) ≡ has_written lines id x
written_is lines c has id x =
    (λ i. list_any (is_surviving (λ n. has.committed n i) id) (map write_of (filter (writes_on x) (made lines))))
    ∙ written_any (committed lines) x id (made lines)

-- an include names a store, as it is kept
pub join_at : (n x : ℕ) (is : List (Placed Inclusion))
    → list_any (is_join_at n x) (map (λ i. join_of i.it) is) ≡ list_any (λ i. (i.it.x == x) && (i.it.node == n)) is
join_at n x [] = refl
join_at n x (i ∷ is) = ap (λ b. ((i.it.x == x) && (i.it.node == n)) || b) (join_at n x is)
