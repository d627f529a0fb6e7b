-- A flush that may send so many messages more, one at a time.
use Rattle.std.specs.Prelude.{ℕ, zero, suc, Option, None}
use Rattle.fx_model.specs.declared.view.View.{View}
use Rattle.fx_model.specs.Messages.{Change, next_message}

-- the next message, where one may still be sent
abbrev pub next_within : ℕ → View → View → Option Change
next_within zero sent wanted = None
next_within (suc n) sent wanted = next_message sent wanted
