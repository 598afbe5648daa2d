-- Paths, by the numbers of their actions.
use Rattle.std.proofs.Common.{◌≡◌, ℕ, List, [], ◌∷◌, Bool, true, false, cond, Option, Some, None, ◌==◌, refl, ap, ◌∙◌}
use Rattle.std.specs.Option.{option_map}
use Rattle.std.specs.Str.{bytes_eq}
use Rattle.arj_model.specs.Actions.{Act, act_in, behind_first, chain_in, committed_of, id_in, path, root_in, top_in}
use Rattle.arj_journal.specs.declared.body.Body.{Body}
use Rattle.arj_journal.specs.declared.body.Body.TheVariants as body
use Rattle.arj_model.specs.Calls.{committing_of, ids, root_or}
use Rattle.arj_model.specs.Last.{excluded_of, exclusion_by, included_of, uid_of_id}
use Rattle.arj_standing.proofs.Paths.{named}
use Rattle.arj_standing.specs.Begun.{AreBegun, link, links}
use Rattle.arj_standing.specs.declared.begun.Begun.{Begun}
use Rattle.arj_start.specs.Kinds.{is_serial}
use Rattle.arj_text.specs.Label.{name}
use Rattle.arj_changes.specs.Kept.{join_of, leave_of}
use Rattle.arj_changes.specs.Kept.{called_by as called_by_path}
use Rattle.arj_changes.specs.Lines.{called_by, called_in, committed_in, join_by, join_in, leave_by, leave_in, root_number, top_number}
use Rattle.arj_changes.specs.Paths.{chain_links, id_named, link_ids, top_id, top_link, uid_numbered}
use Rattle.arj_changes.specs.Read.{called_in as called_in_path}

pub top_is : (p : List Act) → top_link (links p) ≡ option_map link (top_in p)
top_is [] = refl
top_is (a ∷ []) = by (is_serial a.kind)
  where
    by : (b : Bool) → cond b None (Some (link a)) ≡ option_map link (cond b None (Some a))
    by true = refl
    by false = refl
top_is (a ∷ b ∷ p) = by (is_serial a.kind)
  where
    by : (t : Bool) → cond t (Some (link b)) (Some (link a)) ≡ option_map link (cond t (Some b) (Some a))
    by true = refl
    by false = refl

pub chain_is : (p : List Act) → chain_links (links p) ≡ links (chain_in p)
chain_is [] = refl
chain_is (a ∷ []) = by (is_serial a.kind)
  where
    by : (b : Bool) → cond b (behind_first []) [] ≡ links (cond b (behind_first []) [])
    by true = refl
    by false = refl
chain_is (a ∷ b ∷ p) = by (is_serial a.kind)
  where
    by : (t : Bool) → cond t (links p) (link b ∷ links p) ≡ links (cond t p (b ∷ p))
    by true = refl
    by false = refl

pub ids_are : (p : List Act) → link_ids (links p) ≡ ids p
ids_are [] = refl
ids_are (a ∷ p) = ap (λ ns. a.id ∷ ns) (ids_are p)

-- the number of the action with a label
pub id_is : (us : List Act) (bs : List Begun) → AreBegun us bs → (l : List ℕ) → id_named l bs ≡ id_in us l
id_is [] [] has l = refl
id_is [] (b ∷ bs) has l = absurd has
id_is (a ∷ us) [] has l = absurd has
id_is (a ∷ us) (b ∷ bs) has l = (λ i. cond (bytes_eq (has.0 i) l) (Some (has.3 i)) (id_is us bs has.4 l i)) ∙ by (bytes_eq a.label l)
  where
    by : (t : Bool) → cond t (Some a.id) (option_map (λ b. b.id) (act_in us l)) ≡ option_map (λ b. b.id) (cond t (Some a) (act_in us l))
    by true = refl
    by false = refl

-- the Uid of the action of a number
pub uid_is : (us : List Act) (bs : List Begun) → AreBegun us bs → (id : ℕ) → uid_numbered id bs ≡ uid_of_id us id
uid_is [] [] has id = refl
uid_is [] (b ∷ bs) has id = absurd has
uid_is (a ∷ us) [] has id = absurd has
uid_is (a ∷ us) (b ∷ bs) has id = (λ i. cond (has.3 i == id) (has.1 i) (uid_is us bs has.4 id i))

top_numbers : (p : List Act) → top_number (links p) ≡ top_id p
top_numbers p = ap (option_map (λ a. a.id)) (top_is p) ∙ by (top_in p)
  where
    by : (o : Option Act) → option_map (λ a. a.id) (option_map link o) ≡ option_map (λ a. a.id) o
    by None = refl
    by (Some a) = refl

-- the exclusion that a line tells
pub leave_is : (us : List Act) (bs : List Begun) → AreBegun us bs → (b : Body) → leave_in bs b ≡ option_map leave_of (excluded_of us b)
leave_is us bs has (body.Excluded l x n) =
    (λ i. leave_by x n (top_number (named us bs has (name l) i))) ∙ ap (leave_by x n) (top_numbers (path us (name l))) ∙ by (top_in (path us (name l)))
  where
    by : (o : Option Act) → leave_by x n (option_map (λ a. a.id) o) ≡ option_map leave_of (exclusion_by x n o)
    by None = refl
    by (Some a) = refl
leave_is us bs has b = refl

-- the include that a line tells
pub join_is : (us : List Act) (bs : List Begun) → AreBegun us bs → (b : Body) → join_in bs b ≡ option_map join_of (included_of us b)
join_is us bs has (body.Includes l x n) =
    (λ i. Some (join_by x n (named us bs has (name l) i)))
    ∙ (λ i. Some (record { top = top_numbers p i; chain = (ap link_ids (chain_is p) ∙ ids_are (chain_in p)) i; x = x; node = n }))
  where
    p : List Act
    p = path us (name l)
join_is us bs has b = refl

root_is : (n : ℕ) (p : List Act) → root_number n (links p) ≡ root_or n (root_in p)
root_is n [] = refl
root_is n (a ∷ p) = refl

-- the top whose commit a line calls
pub called_is : (us : List Act) (bs : List Begun) → AreBegun us bs → (at : ℕ) (b : Body) →
    called_in bs at b ≡ called_in_path at (committing_of us b)
called_is us bs has at (body.Committing l) =
    (λ i. called_by at (named us bs has (name l) i) (top_link (named us bs has (name l) i))) ∙ ap (called_by at (links p)) (top_is p) ∙ by (top_in p)
  where
    p : List Act
    p = path us (name l)

    by : (o : Option Act) → called_by at (links p) (option_map link o) ≡ called_by_path at p o
    by None = refl
    by (Some a) = (λ i. Some (record { id = a.id; uid = a.uid; root = root_is a.id p i; at = at }))
called_is us bs has at b = refl

-- the number of the action that a line commits
pub committed_is : (us : List Act) (bs : List Begun) → AreBegun us bs → (b : Body) → committed_in bs b ≡ committed_of us b
committed_is us bs has (body.Committed l) = id_is us bs has (name l)
committed_is us bs has b = refl
