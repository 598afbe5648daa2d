-- The last entry of an object by its decided tops is the journal's.
use Rattle.arj_law_parts.proofs.Words
use Words.{◌≡◌, ℕ, ◌+◌, ◌&&◌, not, List, [], ◌∷◌, ◌++◌, filter, length, reverse, Bool, true, false, cond, refl, sym, ◌∙◌, ap, subst}
use Words.{append-nil, AllByRecursion, bytes_eq, length-append, reverse-append, bytes_eq-Decides, Line, arith, Header, uid_number}
use Words.{entry_back}
use Rattle.arj_law_serial.proofs.Terms
use Terms.{acts, Top, entry_payload, first_values, is_among, leaves_of, listed_after, listed_from, object_line}
use Terms.{servers_of_line, Values, first_stores, listed_append, counts_of, Done, Packed, entry_in, target, packed_entry, AreDecided}
use Terms.{AreDecisions, IsDecision, marked}
use Rattle.arj_law.proofs.Listed.{changers_append, entry_decided, last_of_append, same_is, same_itself}
use Rattle.arj_law.specs.Growth.{entry_by}
use Rattle.arj_law_disk.specs.machine.{Order.entry_by_all, State.entry_after, State.entry_with, State.list_after}
use Rattle.arj_law_runs.proofs.journal.Books.{never}
use Rattle.arj_model.specs.{Last.changer_from, Last.changers, Last.entry_from, Last.same_list}
use Rattle.arj_start.specs.{Start.Mark, Start.Marks}
use Rattle.arj_protocol.specs.Values.{entry_in as entry_in_payload}

-- ---- lists

filter_same : {A : Type 0} (p q : A → Bool) → ((x : A) → p x ≡ q x) → (xs : List A) → filter p xs ≡ filter q xs
filter_same p q same [] = refl
filter_same p q same (x ∷ xs) = (λ i. cond (same x i) (x ∷ filter_same p q same xs i) (filter_same p q same xs i))

all_kept : (p : Top → Bool) (xs : List Top) → AllByRecursion (λ (t : Top). p t ≡ true) xs → filter p xs ≡ xs
all_kept p [] all = refl
all_kept p (x ∷ xs) all = ap (λ b. cond b (x ∷ filter p xs) (filter p xs)) all.0 ∙ ap (λ ys. x ∷ ys) (all_kept p xs all.1)

all_last : (P : Top → Type 0) (xs : List Top) (t : Top) → AllByRecursion P xs → P t → AllByRecursion P (xs ++ t ∷ [])
all_last P [] t all new = (new, tt)
all_last P (x ∷ xs) t all new = (all.0, all_last P xs t all.1 new)

turned : (t : Top) (ts : List Top) → reverse (t ∷ ts) ≡ reverse ts ++ t ∷ []
turned t ts = reverse-append (t ∷ []) ts

all_reversed : (P : Top → Type 0) (xs : List Top) → AllByRecursion P xs → AllByRecursion P (reverse xs)
all_reversed P [] all = tt
all_reversed P (x ∷ xs) all = subst (AllByRecursion P) (sym (turned x xs)) (all_last P (reverse xs) x (all_reversed P xs all.1) all.0)

-- ---- one top more

module _ (values : Values) (lines : List Line) (x : ℕ) (first : List ℕ) (mark : Mark) where
  -- the entry after tops, the oldest first
  abbrev by_tops : List Top → Packed
  by_tops ts = record {
    version = mark.version + length (changers lines x first ts);
    writer = uid_number (changer_from (acts lines) mark.writer (changers lines x first ts));
    content = listed_from lines x first ts;
  }

  -- what a decided top makes of a list
  lists : (d : Done) (t : Top) → IsDecision values lines x d t → (stores : List ℕ) →
      list_after d.plan d.got stores ≡ listed_after lines x stores t
  lists d t is stores = (λ i. filter_same (λ s. not (target d.plan s && not (d.got s))) (λ s. not (is_among (leaves_of lines t.id x) s))
      (λ s. ap not (is.leaves s)) stores i ++ is.joins i)

  -- the entry after one top more
  more : (d : Done) (t : Top) (ts : List Top) → IsDecision values lines x d t →
      entry_after d.top d.plan d.got (by_tops ts) ≡ by_tops (ts ++ t ∷ [])
  more d t ts is = ap (λ new. entry_with d.top new (by_tops ts)) (lists d t is now) ∙ by (same_list next now) refl
    where
      now : List ℕ
      now = listed_from lines x first ts

      next : List ℕ
      next = listed_after lines x (listed_from lines x first ts) t

      all_tops : List Top
      all_tops = changers lines x first ts

      changed : changers lines x first (ts ++ t ∷ []) ≡ all_tops ++ cond (same_list next now) [] (t ∷ [])
      changed = changers_append lines x first ts (t ∷ [])

      by : (b : Bool) → same_list next now ≡ b → entry_with d.top next (by_tops ts) ≡ by_tops (ts ++ t ∷ [])
      by true same =
          let one = same_is next now same in
          let old : changers lines x first (ts ++ t ∷ []) ≡ all_tops = changed ∙ ap (λ b. all_tops ++ cond b [] (t ∷ [])) same
          ∙ append-nil all_tops in
          ap (λ b. cond b (by_tops ts) (record { version = mark.version + length all_tops + 1; writer = d.top; content = next }))
          ((bytes_eq-Decides next now).1 one)
          ∙ sym (λ i. record {
            version = mark.version + length (old i);
            writer = uid_number (changer_from (acts lines) mark.writer (old i));
            content = (listed_append lines x first ts t ∙ one) i;
          })
      by false other =
          let new : changers lines x first (ts ++ t ∷ []) ≡ all_tops ++ t ∷ [] = changed ∙ ap (λ b. all_tops ++ cond b [] (t ∷ [])) other in
          ap (λ b. cond b (by_tops ts) (record { version = mark.version + length all_tops + 1; writer = d.top; content = next }))
          (differ (bytes_eq next now) refl)
          ∙ sym (λ i. record {
            version = (ap (λ us. mark.version + length us) new ∙ ap (λ n. mark.version + n) (length-append all_tops (t ∷ []))
                ∙ sum mark.version (length all_tops)) i;
            writer = (ap (λ us. uid_number (changer_from (acts lines) mark.writer us)) new
                ∙ ap uid_number (last_of_append (acts lines) mark.writer all_tops t) ∙ sym is.number) i;
            content = listed_append lines x first ts t i;
          })
        where
          sum : (m n : ℕ) → m + (n + 1) ≡ m + n + 1
          sum m n = omega arith

          differ : (b : Bool) → bytes_eq next now ≡ b → b ≡ false
          differ true e = never (ap (λ ns. same_list ns now) ((bytes_eq-Decides next now).0 e) ∙ same_itself now) other
          differ false e = refl

  pub by_decisions : (start : Packed) → start ≡ marked mark first → (ds : List Done) (ts : List Top) → AreDecisions values lines x ds ts →
      entry_by_all start ds ≡ by_tops (reverse ts)
  by_decisions start is [] [] are = is ∙ (λ i. record { version = zero i; writer = uid_number mark.writer; content = first })
    where
      zero : mark.version ≡ mark.version + 0
      zero = omega arith
  by_decisions start is [] (t ∷ ts) are = absurd are
  by_decisions start is (d ∷ ds) [] are = absurd are
  by_decisions start is (d ∷ ds) (t ∷ ts) are =
      ap (entry_after d.top d.plan d.got) (by_decisions start is ds ts are.1) ∙ more d t (reverse ts) are.0 ∙ ap by_tops (sym (turned t ts))

-- ---- the last entry

-- the entry is that of the tops that count
pub entry_counted : (first : Packed) (ds : List Done) → entry_in first ds ≡ entry_by_all first (filter counts_of ds)
entry_counted first [] = refl
entry_counted first (d ∷ ds) = by d.counts (entry_counted first ds)
  where
    by : (b : Bool) → entry_in first ds ≡ entry_by_all first (filter counts_of ds) → cond b (entry_after d.top d.plan d.got
        (entry_in first ds)) (entry_in first ds) ≡ entry_by_all first (cond b (d ∷ filter counts_of ds) (filter counts_of ds))
    by true ih = ap (entry_after d.top d.plan d.got) ih
    by false ih = ih

pub stores_back : (servers stores : List ℕ) → (let e = entry_in_payload (entry_payload servers stores) in e.stores) ≡ stores
stores_back servers stores = ap (λ e. let d = e in d.stores) (entry_back (record { servers = servers; stores = stores }))

module _ (header : Header) (lines : List Line) (x : ℕ) (first : Packed) (ds : List Done) (decided : AreDecided header lines x ds)
    (marks : Marks) (first_is : first ≡ marked (marks.entries x) (first_stores header x)) where
  abbrev mark : Mark
  mark = marks.entries x

  those : filter decided.counts (reverse decided.those) ≡ reverse decided.those
  those =
      all_kept decided.counts (reverse decided.those) (all_reversed (λ (t : Top). decided.counts t ≡ true) decided.those decided.counted)

  entry_is : entry_from header marks lines x ≡ entry_by header marks lines x (reverse decided.those)
  entry_is =
      entry_decided header marks lines x decided.counts (reverse decided.those) decided.order ∙ ap (entry_by header marks lines x) those

  pub entry_is_last : entry_in first ds ≡ packed_entry (entry_from header marks lines x)
  entry_is_last =
      entry_counted first ds ∙ by_decisions (first_values header) lines x (first_stores header x) mark first first_is (filter counts_of ds)
      decided.those decided.each
      ∙ (λ i. record {
        version = mark.version + length (changers lines x (first_stores header x) (reverse decided.those));
        writer = uid_number (changer_from (acts lines) mark.writer (changers lines x (first_stores header x) (reverse decided.those)));
        content = sym
            (stores_back (servers_of_line (object_line header x)) (listed_from lines x (first_stores header x) (reverse decided.those))) i;
      })
      ∙ ap packed_entry (sym entry_is)
