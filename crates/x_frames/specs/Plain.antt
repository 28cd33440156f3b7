-- What lists and objects are in which no float stands.
use Rattle.std.specs.Prelude.{List, map}
use Rattle.serde_json.specs.Data.{Data, Members}
use Rattle.serde_json.specs.View.{members_view, view}
use Rattle.x_frames.specs.declared.plain_list.PlainList.{PlainList}
use Rattle.x_frames.specs.declared.plain_object.PlainObject.{PlainObject}

abbrev pub listed : PlainList → List Data
listed list = map view list.values.items

abbrev pub members_in : PlainObject → Members
members_in object = members_view object.members.entries
