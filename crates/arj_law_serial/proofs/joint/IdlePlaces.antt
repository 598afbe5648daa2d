-- A top that takes no listed store out of the list, and adds none, changes nothing of it in its place.
use Rattle.arj_law_parts.proofs.Words
use Words.{Contains, ◌≡◌, ◌||◌, ◌∙◌, ℕ, Bool, true, false, cond, not, List, [], ◌∷◌, ◌++◌, append-nil, filter, ap, eq-eqb, inl, inr, refl}
use Words.{subst, sym, AllByRecursion, append_assoc, filter-append, In, in_to, Line}
use Rattle.arj_law_serial.proofs.Terms
use Terms.{listed_append, IdleInPlace, Top, tops, increasing, is_among, joins_of, leaves_of, listed_after, listed_from, serial_tops, lex}
use Terms.{serial_key}
use Rattle.arj_law.proofs.Moves.{all_arrange}
use Rattle.arj_law_disk.proofs.machine.Listing.{filter_all}
use Rattle.arj_law_runs.proofs.journal.Books.{never}
use Rattle.arj_law_serial.proofs.joint.JoinLists.{has_is}

pub all_those : (P : Top → Type 0) (ts : List Top) → ((u : Top) → Contains ts u → P u) → AllByRecursion P ts
all_those P ts each = by ts (λ u i. each u (in_to u ts i))
  where
    by : (us : List Top) → ((u : Top) → In u us → P u) → AllByRecursion P us
    by [] f = tt
    by (u ∷ us) f = (f u (inl refl), by us (λ v i. f v (inr i)))

-- nothing is among no numbers alone
pub none_among : (ns : List ℕ) → ((s : ℕ) → is_among ns s ≡ false) → ns ≡ []
none_among [] none = refl
none_among (n ∷ ns) none = absurd (never (ap (λ b. b || is_among ns n) (eq-eqb n n refl)) (none n))

-- the stores that the top adds
abbrev pub added : List Line → ℕ → Top → List ℕ
added lines x t = increasing (filter (λ s. not (is_among (leaves_of lines t.id x) s)) (joins_of lines t.id x))

module _ (lines : List Line) (x : ℕ) (counts : Top → Bool) (start : List ℕ) (all : List Top) (adds : (t : Top) → In t (tops lines) →
    counts t ≡ false → added lines x t ≡ [])
    (excludes : (before : List Top) (t : Top) (after : List Top) → all ≡ before ++ (t ∷ after) → In t (tops lines) → counts t ≡ false →
    (s : ℕ) → is_among (listed_from lines x start (filter counts before)) s ≡ true → is_among (leaves_of lines t.id x) s ≡ false) where
  keeps_list : (stores : List ℕ) (t : Top) → In t (tops lines) → ((s : ℕ) → is_among stores s ≡ true →
      is_among (leaves_of lines t.id x) s ≡ false) → counts t ≡ false → listed_after lines x stores t ≡ stores
  keeps_list stores t i none off = ap (λ ns. filter (λ s. not (is_among (leaves_of lines t.id x) s)) stores ++ ns) (adds t i off)
      ∙ append-nil (filter (λ s. not (is_among (leaves_of lines t.id x) s)) stores)
      ∙ filter_all (λ s. not (is_among (leaves_of lines t.id x) s)) stores (λ s on. ap not (none s (sym (has_is s stores) ∙ on)))

  -- the list is at each place that of those that count
  idle_from : (before ts : List Top) → all ≡ before ++ ts → AllByRecursion (λ (t : Top). In t (tops lines)) ts → listed_from lines x start
      before ≡ listed_from lines x start (filter counts before) → IdleInPlace lines x counts (listed_from lines x start before) ts
  idle_from before [] is there same = tt
  idle_from before (t ∷ ts) is there same = (
    here,
    subst (λ l. IdleInPlace lines x counts l ts) (listed_append lines x start before t)
        (idle_from (before ++ t ∷ []) ts (is ∙ sym (append_assoc before (t ∷ []) ts)) there.1 next),
  )
    where
      here : counts t ≡ false → listed_after lines x (listed_from lines x start before) t ≡ listed_from lines x start before
      here off = keeps_list (listed_from lines x start before) t there.0
          (λ s on. excludes before t ts is there.0 off s (ap (λ l. is_among l s) (sym same) ∙ on)) off

      next : listed_from lines x start (before ++ t ∷ []) ≡ listed_from lines x start (filter counts (before ++ t ∷ []))
      next = listed_append lines x start before t ∙ by (counts t) refl
          ∙ ap (listed_from lines x start) (sym (filter-append counts before (t ∷ [])))
        where
          by : (b : Bool) → counts t ≡ b → listed_after lines x (listed_from lines x start before) t
              ≡ listed_from lines x start (filter counts before ++ filter counts (t ∷ []))
          by true on = ap (λ l. listed_after lines x l t) same ∙ sym (listed_append lines x start (filter counts before) t)
              ∙ ap (λ b. listed_from lines x start (filter counts before ++ cond b (t ∷ []) [])) (sym on)
          by false off = here off ∙ same ∙ ap (listed_from lines x start) (sym (append-nil (filter counts before)))
              ∙ ap (λ b. listed_from lines x start (filter counts before ++ cond b (t ∷ []) [])) (sym off)

  pub all_idle : AllByRecursion (λ (t : Top). In t (tops lines)) all → IdleInPlace lines x counts start all
  all_idle there = idle_from [] all refl there refl

-- the tops of the serial order are the journal's
pub serial_there : (lines : List Line) → AllByRecursion (λ (t : Top). In t (tops lines)) (serial_tops lines)
serial_there lines = all_arrange (λ (t : Top). In t (tops lines))
    (λ (t : Top) (u : Top). lex (serial_key (tops lines) t.id) (serial_key (tops lines) u.id)) (tops lines) (itself (tops lines) (λ t i. i))
  where
    itself : (us : List Top) → ((t : Top) → In t us → In t (tops lines)) → AllByRecursion (λ (t : Top). In t (tops lines)) us
    itself [] f = tt
    itself (u ∷ us) f = (f u (inl refl), itself us (λ v i. f v (inr i)))
