pub mod NestLimits
