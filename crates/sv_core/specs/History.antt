-- A history is a list of entries, the newest first. It determines what is published, what each site has, each site's tables, where sessions are and what
-- they have seen.
use Rattle.std.specs.Prelude.{ℕ, suc, ◌+◌, ◌-◌, ◌%◌, ◌==◌, ◌&&◌, if◌then◌else◌, Bool, true, false, List, [], ◌∷◌, ◌++◌, length, drop, max, map, Option, Some, None, slice_get, get_or}
use Rattle.sv_value.specs.Cuts.{origin}
use Rattle.sv_app.specs.declared.requests.Request.{Request}
use Rattle.sv_effect.specs.declared.ops.Op.{Op}
use Rattle.sv_effect.specs.BareTables.{bare}
use Rattle.sv_effect.specs.StampedTables.{StampedTables}
use Rattle.sv_effect.specs.Cut.{Cut, Medium, as_deps}
use Rattle.sv_effect.specs.Run.{RunResult}
use Rattle.sv_effect.specs.TablesOfCut.{tables_of}
use Rattle.sv_core.specs.declared.docs.Item.{Item}
use Rattle.sv_core.specs.declared.entries.Entry.{Entry}
use Rattle.sv_core.specs.declared.entries.Entry.TheVariants.{Answer, Apply, Move}
use Rattle.sv_core.specs.Clock.{latest_in}
use Rattle.sv_core.specs.Document.{Document}
use Rattle.sv_core.specs.Runs.{carried, run_of}

abbrev pub History : Type 0
History = List Entry

-- whether an entry brings the site an operation of the origin
abbrev pub brings : Entry → ℕ → ℕ → Bool
brings (Answer session index request site at reply label None) s o = false
brings (Answer session index request site at reply label (Some packet)) s o = s == site && o == origin packet
brings (Apply site packet) s o = s == site && o == origin packet
brings (Move session site) s o = false

-- what a site has: the number of packets of each origin that entries brought it
abbrev pub cut_of : History → ℕ → Cut
cut_of [] s o = 0
cut_of (e ∷ h) s o = if brings e s o then suc (cut_of h s o) else cut_of h s o

-- the history as it stood at a place
abbrev pub back_to : ℕ → History → History
back_to at h = drop (length h - at) h

-- the tables of what a site had at a place. They are the same in the medium of now, since a cut counts from the front.
abbrev pub tables_then : Document → Medium → History → ℕ → ℕ → StampedTables
tables_then doc m h site at = tables_of doc.schema doc.init m (cut_of (back_to at h) site)

-- the run of an answer: on the site's tables at the place `at`
abbrev pub run_then : Document → Medium → History → ℕ → ℕ → Request → ℕ → ℕ → RunResult
run_then doc m h session index request site at = run_of doc session index request (bare (tables_then doc m h site at))

-- the operation of an answer: what that run changes and needs, that cut as its deps, and a time above those of all that the site has now
abbrev pub op_of : Document → Medium → History → ℕ → ℕ → Request → ℕ → ℕ → Op
op_of doc m h session index request site at = record {
  time = suc (latest_in m (cut_of h site));
  site = site;
  deps = as_deps (cut_of (back_to at h) site);
  effects = map carried (run_then doc m h session index request site at).effects;
  needs = (run_then doc m h session index request site at).needs;
}

-- the operation that an entry publishes, with its origin
abbrev pub news : Document → Medium → History → Entry → Option (ℕ × Op)
news doc m h (Answer session index request site at reply label None) = None
news doc m h (Answer session index request site at reply label (Some packet)) = Some (origin packet, op_of doc m h session index request site at)
news doc m h (Apply site packet) = None
news doc m h (Move session site) = None

abbrev pub with_news : Option (ℕ × Op) → Medium → Medium
with_news None m o = m o
with_news (Some n) m o = if o == n.0 then m o ++ n.1 ∷ [] else m o

abbrev pub published : Document → History → Medium
published doc [] o = []
published doc (e ∷ h) o = with_news (news doc (published doc h) h e) (published doc h) o

-- a site's tables, with their stamps
abbrev pub tables_at : Document → History → ℕ → StampedTables
tables_at doc h s = tables_of doc.schema doc.init (published doc h) (cut_of h s)

-- how many entries of a kind there are
abbrev pub count_where : (Entry → Bool) → History → ℕ
count_where p [] = 0
count_where p (e ∷ h) = if p e then suc (count_where p h) else count_where p h

abbrev pub is_answer : Entry → Bool
is_answer (Answer session index request site at reply label packet) = true
is_answer (Apply site packet) = false
is_answer (Move session site) = false

abbrev pub is_move : Entry → Bool
is_move (Answer session index request site at reply label packet) = false
is_move (Apply site packet) = false
is_move (Move session site) = true

-- whether it is an answer or a move of this session
abbrev pub is_of : ℕ → Entry → Bool
is_of k (Answer session index request site at reply label packet) = k == session
is_of k (Apply site packet) = false
is_of k (Move session site) = k == session

abbrev pub answers : History → ℕ
answers h = count_where is_answer h

abbrev pub moves : History → ℕ
moves h = count_where is_move h

abbrev pub answered : History → ℕ → ℕ
answered h k = count_where (λ e. is_answer e && is_of k e) h

abbrev pub moved : History → ℕ → ℕ
moved h k = count_where (λ e. is_move e && is_of k e) h

-- the site at which a session begins
abbrev pub home : Document → ℕ → ℕ
home doc session = 1 + (session - 1) % doc.sites

-- where a session is: the site of its last move
abbrev pub site_of : Document → History → ℕ → ℕ
site_of doc [] k = home doc k
site_of doc (Answer session index request site at reply label packet ∷ h) k = site_of doc h k
site_of doc (Apply site packet ∷ h) k = site_of doc h k
site_of doc (Move session site ∷ h) k = if k == session then site else site_of doc h k

-- what a session has seen: the most of each origin that its sites had behind its answers
abbrev pub seen_of : History → ℕ → Cut
seen_of [] k o = 0
seen_of (Answer session index request site at reply label packet ∷ h) k o =
    if k == session then max (seen_of h k o) (cut_of (Answer session index request site at reply label packet ∷ h) site o) else seen_of h k o
seen_of (Apply site packet ∷ h) k o = seen_of h k o
seen_of (Move session site ∷ h) k o = seen_of h k o

-- the items that the document lists for a session, and the one that is next
abbrev pub items_of : Document → ℕ → List Item
items_of doc session = get_or doc.sessions (session - 1) []

abbrev pub item_of : Document → History → ℕ → Option Item
item_of doc h session = slice_get (items_of doc session) (answered h session + moved h session)
