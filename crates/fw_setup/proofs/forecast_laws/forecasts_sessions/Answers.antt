use Rattle.fw_setup.proofs.Leading.{foretells_sessions as sessions_foretold}
use Rattle.fw_setup.proofs.forecast_laws.forecasts_sessions.Goals as goal

pub returns : goal.returns
returns c = sessions_foretold
