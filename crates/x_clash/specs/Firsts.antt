-- What is kept of the things that have a name.
use Rattle.std.specs.Prelude.{◌≡◌, ℕ, not, List, Option, None, Some, option_map, if◌then◌else◌}
use Rattle.std.specs.Option.{option_or}
use Rattle.std.specs.Str.{bytes_eq}
use Rattle.x_clash.specs.Clashes.{Thing, first_of, is_at_file_scope, is_macro, is_member, is_other_macro}
use Rattle.x_clash.specs.Given.{Sort, Macro, Member}
use Rattle.x_clash.specs.declared.clash.Place.{Place}
use Rattle.x_clash.specs.declared.firsts.FirstMacro.{FirstMacro}
use Rattle.x_clash.specs.declared.firsts.Firsts.{Firsts}

-- the first macro that stands for another text than this, by the first macro and the first that stands for
-- another text than that
abbrev pub beside : List ℕ → Option FirstMacro → Option Place → Option Place
beside text None other = None
beside text (Some m) other = if bytes_eq text m.text.now then other else Some m.place

abbrev pub macro_beside : List ℕ → Firsts → Option Place
macro_beside text f = beside text f.first_macro f.other_macro

-- the first macro
abbrev pub macro_place : Firsts → Option Place
macro_place f = option_map (λ m. m.place) f.first_macro

-- the first of them that a thing of the sort meets
abbrev pub met_in : Firsts → Sort → Option Place
met_in f (Macro text) = option_or (macro_beside text f) (option_or f.at_file_scope f.member)
met_in f Member = macro_place f
met_in f sort = option_or (macro_place f) f.at_file_scope

-- these are kept of the things of the name
pub record AreFirsts (name : List ℕ) (things : List Thing) (f : Firsts) : Type 0 where
  pub macros : macro_place f ≡ first_of is_macro name things
  pub other_macros : (text : List ℕ) → macro_beside text f ≡ first_of (is_other_macro text) name things
  pub at_file_scope : f.at_file_scope ≡ first_of is_at_file_scope name things
  pub members : f.member ≡ first_of is_member name things

-- what is kept where nothing is
abbrev pub no_firsts : Firsts
no_firsts = record { first_macro = None; other_macro = None; at_file_scope = None; member = None }
