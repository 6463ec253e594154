pub mod ClauseTurns
