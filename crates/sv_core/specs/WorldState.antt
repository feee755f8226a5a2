-- What the states of the sites are of a document and its history.
use Rattle.std.specs.Prelude.{◌≡◌, ℕ, suc, List, length, map, Some, slice_get}
use Rattle.sv_value.specs.declared.packets.Packet.{Packet}
use Rattle.sv_core.specs.declared.sites.SiteState.{SiteState}
use Rattle.sv_core.specs.Document.{Document}
use Rattle.sv_core.specs.History.{History}
use Rattle.sv_core.specs.Standing.{Stands}

-- one for each site, in order, which stands for the history
pub record AreStates (doc : Document) (h : History) (states : List SiteState) : Type 0 where
  pub long : length states ≡ doc.sites
  pub all : (place : ℕ) (state : SiteState) → slice_get states place ≡ Some state → Stands doc h state
  pub sites : (place : ℕ) (state : SiteState) → slice_get states place ≡ Some state → state.site ≡ suc place

abbrev pub inboxes_in : List SiteState → List (List Packet)
inboxes_in states = map (λ state. state.inbox) states
