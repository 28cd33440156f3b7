-- By what the faults of a text are told, one after another: other places that matter to them, and marks of
-- their own places.
use Rattle.std.specs.Prelude.{◌≡◌, ℕ, List}
use Rattle.x_compile.specs.declared.fault.FaultPlace.{FaultPlace}
use Rattle.x_explain.specs.declared.found.FoundFault.{FoundFault}
use Rattle.x_positions.specs.declared.marking.Marker.{Marker}
use Rattle.x_published.specs.declared.client.Client.{Client}
use Rattle.x_published.specs.declared.other_places.OtherPlaces.{OtherPlaces}
use Rattle.x_published.specs.OtherPlaces.{AreOfText}

-- the other places are told to this client
pub record AreOthersFor (client : Client) (others : OtherPlaces) : Type 0 where
  pub of_text : AreOfText others
  pub shown : others.shown ≡ client.shows_related
  pub encoding : others.marks.now.encoding ≡ client.encoding

-- they are of the same text, and of what is compiled of the same
pub record AreOfSame (old new' : OtherPlaces) : Type 0 where
  pub shown : new'.shown ≡ old.shown
  pub text : new'.text.now ≡ old.text.now
  pub session : new'.session.now ≡ old.session.now
  pub marks : new'.marks.now ≡ old.marks.now

-- places of this text are marked by the positions that the client counts
pub record IsMarkerFor (client : Client) (shown : List ℕ) (marker : Marker) : Type 0 where
  pub text : marker.text.now ≡ shown
  pub encoding : marker.encoding ≡ client.encoding

-- the place of a fault that was found, as far as what is told of it depends on that
abbrev pub place_of_found : FoundFault → FaultPlace
place_of_found found = record { item = 0; token = 0; start = found.start; code = found.code }
