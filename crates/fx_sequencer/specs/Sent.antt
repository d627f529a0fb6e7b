-- The views that the entries of their maps make.
use Rattle.fx_model.specs.declared.view.View.{View}
use Rattle.fx_sequencer.specs.declared.entries.Entries.{Entries}
use Rattle.fx_sequencer.specs.declared.sides.Sides.{Sides}

abbrev pub sent_view : Entries → View
sent_view e = record { sets = e.sets.sent; policies = e.policies.sent; profiles = e.profiles.sent; endpoints = e.endpoints.sent }

abbrev pub wanted_view : Entries → View
wanted_view e = record { sets = e.sets.wanted; policies = e.policies.wanted; profiles = e.profiles.wanted; endpoints = e.endpoints.wanted }

abbrev pub views_of : Entries → Sides
views_of e = record { sent = sent_view e; wanted = wanted_view e }
