-- A commit is called of a top, by the line of its own path: so the journal has the call of an action exactly where its book has it.
use Rattle.arj_law_parts.proofs.Words
use Words.{◌≡◌, ◌∙◌, ◌||◌, ◌++◌, ◌==◌, ℕ, Bool, true, false, cond, List, [], ◌∷◌, Option, Some, None, refl, sym, ap, bytes_eq, is_on, Body}
use Words.{In, Kind, Line, is_serial, name}
use Words.kind
use Rattle.arj_law_runs.proofs.Terms
use Terms.{Act, act_in, path, top_in, upwards, Book, book, is_top, new_book, turned, AreFormed, AreRight, IsBelow, Right, acts}
use Terms.body
use Rattle.arj_law_runs.proofs.journal.{Books.named_is}
use Rattle.arj_law_runs.proofs.journal.Models.{AreSound, Tells, holds, named_in, new_sound, or_none, reads, tells}
use Rattle.arj_model.specs.Calls.{committing_of, committings}
use Rattle.arj_model.specs.Refusals.{holds_of, was_called}

-- a serializing action stands alone
serial_path : (acts : List Act) (p : List ℕ) (s : Act) → AreFormed acts → act_in acts p ≡ Some s → is_serial s.kind ≡ true →
    path acts p ≡ s ∷ []
serial_path [] p s formed is serial = absurd (cc is)
serial_path (x ∷ older) p s formed is serial = by (λ f. serial_path older p s formed.1 f serial) (bytes_eq x.label p) is
  where
    alone : (k : Kind) (parent : Option (List ℕ)) → is_serial k ≡ true → IsBelow older k parent → upwards parent k (path older) ≡ []
    alone kind.Serial None e b = refl
    alone kind.Serial (Some q) e b = absurd b
    alone kind.Top parent e b = absurd (cc e)
    alone kind.Nested parent e b = absurd (cc e)
    alone kind.Constituent parent e b = absurd (cc e)
    alone kind.Independent parent e b = absurd (cc e)

    by : (act_in older p ≡ Some s → path older p ≡ s ∷ []) → (t : Bool) → cond t (Some x) (act_in older p) ≡ Some s →
        cond t (upwards x.parent x.kind (path older) ++ x ∷ []) (path older p) ≡ s ∷ []
    by ih true e = let same : x ≡ s = cc e in
        ap (λ us. us ++ x ∷ []) (alone x.kind x.parent (ap (λ (a : Act). is_serial a.kind) same ∙ serial) formed.0) ∙ ap (λ a. a ∷ []) same
    by ih false e = ih e

-- the top of a top's path is itself
pub top_path : (acts : List Act) (p : List ℕ) (a : Act) → AreFormed acts → act_in acts p ≡ Some a → is_top a.kind ≡ true →
    top_in (path acts p) ≡ Some a
top_path [] p a formed is top = absurd (cc is)
top_path (x ∷ older) p a formed is top = by (λ f. top_path older p a formed.1 f top) (bytes_eq x.label p) is
  where
    plain : (k : Kind) → x.kind ≡ k → is_serial k ≡ false → top_in (x ∷ []) ≡ Some x
    plain k same e = ap (λ b. cond b None (Some x)) (ap is_serial same ∙ e)

    shape : (k : Kind) (parent : Option (List ℕ)) → x.kind ≡ k → is_top k ≡ true → IsBelow older k parent →
        top_in (upwards parent k (path older) ++ x ∷ []) ≡ Some x
    shape kind.Top None same e b = plain kind.Top same refl
    shape kind.Top (Some q) same e b = absurd b
    shape kind.Independent None same e b = absurd b
    shape kind.Independent (Some q) same e b = plain kind.Independent same refl
    shape kind.Constituent None same e b = absurd b
    shape kind.Constituent (Some q) same e b =
        ap (λ us. top_in (us ++ x ∷ [])) (serial_path older q b.0 formed.1 b.1 b.2) ∙ ap (λ t. cond t (Some x) (Some b.0)) b.2
    shape kind.Nested parent same e b = absurd (cc e)
    shape kind.Serial parent same e b = absurd (cc e)

    by : (act_in older p ≡ Some a → top_in (path older p) ≡ Some a) → (t : Bool) → cond t (Some x) (act_in older p) ≡ Some a →
        top_in (cond t (upwards x.parent x.kind (path older) ++ x ∷ []) (path older p)) ≡ Some a
    by ih true e = let same : x ≡ a = cc e in
        shape x.kind x.parent refl (ap (λ (y : Act). is_top y.kind) same ∙ top) formed.0 ∙ ap Some same
    by ih false e = ih e

-- the call of a commit is of this action
abbrev is_of : Act → List Act → Bool
is_of a p = holds_of (λ (t : Act). t.id == a.id) (top_in p)

called_step : (a : Act) (B : Book) (b : Body) → Right B b → AreSound B.acts → Tells a B.acts → (holds (is_of a) (committing_of B.acts b)
    || is_on B.called a.uid) ≡ is_on (let V = turned B b in V.called) a.uid
called_step a B (body.Committing l) right s t =
    let x = right.0 in
    let o = right.1 in
    ap (λ p. holds_of (λ (y : Act). y.id == a.id) p || is_on B.called a.uid) (top_path B.acts (name l) x s.formed o.named right.2)
    ∙ ap (λ b. b || is_on B.called a.uid) (t x (named_in B.acts (name l) x o.named))
    ∙ ap (λ us. is_on us a.uid) (sym (named_is B.acts l B.called x o.named))
called_step a B (body.Began l k u p) right s t = refl
called_step a B (body.Committed l) right s t = refl
called_step a B (body.Aborted l c) right s t = refl
called_step a B (body.Ended l) right s t = refl
called_step a B (body.Recovered n u) right s t = refl
called_step a B b right s t = refl

-- the commit of an action was called by the journal exactly where its book has it
pub called_so : (lines : List Line) → AreRight new_book lines → (a : Act) → In a (acts lines) →
    was_called (committings lines) a.id ≡ is_on (let B = book lines in B.called) a.uid
called_so lines right a there = sym (or_none (was_called (committings lines) a.id))
    ∙ reads a committing_of (is_of a) (λ B. is_on B.called a.uid) (called_step a) new_book 0 lines right new_sound
    (tells lines right a there)
